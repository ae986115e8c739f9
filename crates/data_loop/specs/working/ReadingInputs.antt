-- The turn of a node on the links that it reads. `is_driver` is true for the driver's seat.
-- Source: PipeWire's documentation, "SPA Buffers"; the calls are this project's own.
use Rattle.std.specs.Prelude.{◌≡◌, ◌≢◌, ℕ, ◌+◌, Bool, List, All, AllPairs, Contains, length}
use Rattle.board_rule.specs.declared.view.View.{View}
use Rattle.board_rule.specs.Layout.{BoardLayout}
use Rattle.board_rule.specs.buffers.EndViews.{read_of}
use Rattle.board_rule.specs.buffers.ReaderSteps.{read_cycle}
use Rattle.io_areas.specs.Ends.{IsReadUpTo}
use Rattle.io_areas.specs.InputTurn.{MayReadInput}

-- no link is touched in this cycle, and no link is there twice
abbrev pub MayReadAll : Bool → BoardLayout → View → List ℕ → Type 0
MayReadAll is_driver p v links = All (MayReadInput is_driver p v) links
    × AllPairs (λ k l. k ≢ l) links

-- from the view v to the view w, each of the links is taken, read and given back; no other is
-- touched
pub record AreRead (is_driver : Bool) (p : BoardLayout) (v : View) (links : List ℕ)
    (w : View) : Type 0 where
  pub same : w ≡ record v { reads = w.reads; words_read = w.words_read }
  pub ends : length w.reads ≡ length v.reads
  pub words : length w.words_read ≡ length v.words_read
  pub read : (l : ℕ) → Contains links l → IsReadUpTo w l (read_cycle is_driver p v l + 1)
  pub others : (l : ℕ) → (Contains links l → ⊥) → read_of w l ≡ read_of v l
