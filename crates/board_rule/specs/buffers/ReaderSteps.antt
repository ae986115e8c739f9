-- The steps on buffers of a node that reads: what each asks of the view of its seat, and the view
-- after it. Links are given by number; `is_driver` is true for the driver's seat.
-- Source: PipeWire's documentation, "SPA Buffers"; spa/node/io.h, spa_io_buffers; the words of
-- pools are this project's own.
use Rattle.std.specs.Prelude.{◌≡◌, ℕ, ℤ, ◌+◌, ◌<◌, ◌≤◌, Bool, List, slice_set as set}
use Rattle.board_rule.specs.declared.view.View.{View}
use Rattle.board_rule.specs.Layout.{BoardLayout}
use Rattle.board_rule.specs.buffers.SampleWords.{samples_of}
use Rattle.board_rule.specs.buffers.EndViews.{read_of, view_read, pool_at, pool_of}
pub use Rattle.board_rule.specs.buffers.ReaderLoads.{words_read_of, read_cycle, IsReader, read_area, LoadsAsReader, loaded_as_reader, stamp_read}
pub use Rattle.board_rule.specs.buffers.ReaderLoads.{IsOfThisCycle, IsZeroAtFirst, IsPublished}

module _ (is_driver : Bool) (p : BoardLayout) where
  -- THE READER'S TURN: it has loaded the number of a block in this cycle
  abbrev pub IsReading : View → ℕ → ℕ → Type 0
  IsReading v l id = IsReader is_driver p v l
      × ((read_of v l).loaded ≡ read_cycle is_driver p v l + 1)
      × ((read_of v l).id < (pool_at p (pool_of p l)).blocks) × (id ≡ (read_of v l).id)

  -- the block is not yet lowered
  abbrev pub ReadsBlock : View → ℕ → ℕ → Type 0
  ReadsBlock v l id = IsReading v l id × ((read_of v l).lowered ≡ read_cycle is_driver p v l)

  -- LOADING A SAMPLE WORD: all words before it are loaded
  abbrev pub LoadsSample : View → ℕ → ℕ → ℕ → Type 0
  LoadsSample v l id place = ReadsBlock v l id × (place ≤ words_read_of v l)

  abbrev pub sample_loaded : View → ℕ → ℕ → View
  sample_loaded v l place = record v { words_read = set v.words_read l (place + 1) }

  -- LOWERING THE READERS: all words of the block are loaded
  abbrev pub LowersReaders : View → ℕ → ℕ → Type 0
  LowersReaders v l id = ReadsBlock v l id
      × (words_read_of v l ≡ (pool_at p (pool_of p l)).words)

  abbrev pub readers_lowered : View → ℕ → View
  readers_lowered v l = view_read v l (record (read_of v l)
      { lowered = read_cycle is_driver p v l + 1 })

  -- what the link's pool gave in the cycle in which that block was announced
  abbrev pub samples_read : View → ℕ → List ℤ
  samples_read v l = samples_of p v.expect (stamp_read is_driver p v l) (pool_of p l)

  -- STORING NEED_DATA: the block is lowered
  abbrev pub StoresNeed : View → ℕ → ℕ → Type 0
  StoresNeed v l id = IsReading v l id × ((read_of v l).lowered ≡ read_cycle is_driver p v l + 1)
      × ((read_of v l).stored ≡ read_cycle is_driver p v l)

  abbrev pub need_stored : View → ℕ → View
  need_stored v l = view_read v l (record (read_of v l) { stored = read_cycle is_driver p v l + 1 })
