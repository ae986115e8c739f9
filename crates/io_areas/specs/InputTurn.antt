-- The turn of a node on a link that it reads. `is_driver` is true for the driver's seat.
-- Source: PipeWire's documentation, "SPA Buffers"; the calls are this project's own.
use Rattle.std.specs.Prelude.{◌≡◌, ℕ, ◌+◌, ◌<◌, Bool, length, slice_set as set}
use Rattle.board_rule.specs.declared.view.View.{View}
use Rattle.board_rule.specs.Layout.{BoardLayout}
use Rattle.board_rule.specs.buffers.EndViews.{view_read, pool_at, pool_of, reader_of}
use Rattle.board_rule.specs.activation.SeatNodes.{HasNode}
use Rattle.board_rule.specs.activation.WorkSteps.{IsRunning}
use Rattle.board_rule.specs.buffers.ReaderSteps.{read_cycle}
use Rattle.io_areas.specs.Ends.{IsReadUpTo}

-- the link's reader works, and has not touched it in this cycle
pub record MayReadInput (is_driver : Bool) (p : BoardLayout) (v : View) (l : ℕ) : Type 0 where
  pub inside : l < length p.shape.links
  pub has : HasNode is_driver p v (reader_of p l)
  pub runs : IsRunning is_driver v (reader_of p l)
  pub even : IsReadUpTo v l (read_cycle is_driver p v l)

-- it has taken a block, read it whole and given it back: only this end of the link is another
abbrev pub HasReadInput : Bool → BoardLayout → View → ℕ → View → Type 0
HasReadInput is_driver p v l w = let c : ℕ = read_cycle is_driver p v l in
    (id : ℕ) × (w
    ≡ record (view_read v l
    (record { loaded = c + 1; lowered = c + 1; stored = c + 1; id = id }))
    { words_read = set v.words_read l (pool_at p (pool_of p l)).words })
