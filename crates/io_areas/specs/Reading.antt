-- The calls of a node that reads: what each asks of the view of its seat, its answer, and the view
-- after it. Links are given by number; `is_driver` is true for the driver's seat.
-- Source: PipeWire's documentation, "SPA Buffers"; spa/node/io.h, spa_io_buffers; the words of
-- pools are this project's own.
use Rattle.std.specs.Prelude.{◌≡◌, ℕ, ℤ, pos, ◌+◌, ◌-◌, Bool, cond, ltb, List, map, replicate, slice_set as set}
use Rattle.pw_lists.specs.Samples.{clamped}
use Rattle.board_rule.specs.declared.view.View.{View}
use Rattle.board_rule.specs.Layout.{BoardLayout, first}
use Rattle.board_rule.specs.View.{Samples}
use Rattle.board_rule.specs.buffers.SampleWords.{samples_in}
use Rattle.board_rule.specs.buffers.BlockReadings.{delay_at}
use Rattle.board_rule.specs.buffers.EndViews.{read_of, view_read, pool_at, pool_of}
use Rattle.board_rule.specs.buffers.ReaderSteps.{read_cycle, words_read_of, ReadsBlock}
use Rattle.io_areas.specs.Quanta.{quantum_of}

-- each is a sample of 16 bits: a clamp leaves it
abbrev pub IsClamped : List ℤ → Type 0
IsClamped row = map clamped row ≡ row

module _ (p : BoardLayout) where
  -- one more than the cycle whose block a link brings its reader in the cycle c: of a delayed link
  -- the cycle before
  abbrev pub stamp_brought : ℕ → ℕ → ℕ
  stamp_brought l c = c + 1 - delay_at p l

  -- WHAT A LINK BRINGS in the cycle c: what its pool gives in that cycle, and zeros where that is
  -- before the first
  abbrev pub brought_in : Samples → ℕ → ℕ → List ℤ
  brought_in e l c = cond (ltb (first p) (stamp_brought l c))
      (samples_in p e (stamp_brought l c - 1) (pool_of p l))
      (replicate (quantum_of p (pool_of p l)) (pos 0))

module _ (is_driver : Bool) (p : BoardLayout) where
  -- TAKING: the link's reader has the number of a block, from now on in this cycle
  abbrev pub taken : View → ℕ → ℕ → View
  taken v l id = record (view_read v l
      (record (read_of v l) { loaded = read_cycle is_driver p v l + 1; id = id }))
      { words_read = set v.words_read l 0 }

  -- READING: the block is taken in this cycle and not yet given back. It has what the link brings
  -- in this cycle, and all its words are loaded then
  abbrev pub IsHolding : View → ℕ → Type 0
  IsHolding v l = ReadsBlock is_driver p v l (read_of v l).id

  abbrev pub all_loaded : View → ℕ → View
  all_loaded v l = record v { words_read = set v.words_read l (pool_at p (pool_of p l)).words }

  abbrev pub brought : View → ℕ → List ℤ
  brought v l = brought_in p v.expect l (read_cycle is_driver p v l)

  -- GIVING BACK, when all words are loaded: the readers of the block are one fewer, and then the
  -- link's area asks for data
  abbrev pub GivesBack : View → ℕ → Type 0
  GivesBack v l = IsHolding v l × ((read_of v l).stored ≡ read_cycle is_driver p v l)
      × (words_read_of v l ≡ (pool_at p (pool_of p l)).words)

  abbrev pub given_back : View → ℕ → View
  given_back v l = view_read v l (record (read_of v l)
      { lowered = read_cycle is_driver p v l + 1; stored = read_cycle is_driver p v l + 1 })
