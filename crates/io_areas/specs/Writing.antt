-- The calls of a node that writes: what each asks of the view of its seat, its answer, and the view
-- after it. Links, pools and blocks are given by number.
-- Source: PipeWire's documentation, "SPA Buffers"; spa/node/io.h, spa_io_buffers; the words of
-- pools are this project's own.
use Rattle.std.specs.Prelude.{◌≡◌, ℕ, ℤ, ◌+◌, ◌<◌, true, cond, eqb, List, Option, Some, None}
use Rattle.board_rule.specs.declared.view.BlockView.TheVariants.{Free, Filling, Out}
use Rattle.board_rule.specs.declared.view.View.{View}
use Rattle.board_rule.specs.Layout.{BoardLayout, first}
use Rattle.board_rule.specs.buffers.SampleWords.{samples_in}
use Rattle.board_rule.specs.buffers.Areas.{stored_id}
use Rattle.board_rule.specs.buffers.BlockReadings.{delay_at, busy_cycles, is_busy, stamp}
use Rattle.board_rule.specs.buffers.EndViews.{write_of, pool_at, pool_of, block_of, view_block}
use Rattle.board_rule.specs.buffers.WriterSteps.{write_cycle, IsWriter, have_stored}
use Rattle.board_rule.specs.buffers.BlockSteps.{fill_cycle, IsWriting, HasBlock, readers_stored}
use Rattle.board_rule.specs.buffers.BufferReads.{HasPool, IsFirstFilled}
pub use Rattle.io_areas.specs.Reclaiming.{IsAtPool, Reclaims, HasReclaimed}

module _ (p : BoardLayout) where
  -- LOADING FOR WRITING answers the number that the reader gave back: none exactly in the first
  -- cycle
  abbrev pub number_given : View → ℕ → Option ℕ
  number_given v l = cond (eqb (write_cycle p v l) (first p)) None
      (Some (stored_id (write_of v l) (delay_at p l)))

  -- FILLING: the block is free, no block of the pool is due or filled in this cycle, and the
  -- samples are those that the pool gives in it
  abbrev pub IsUnfilled : View → ℕ → ℕ → Type 0
  IsUnfilled v q c = (a : ℕ) → a < (pool_at p q).blocks → is_busy (block_of p v q a) ≡ true
      → (stamp c (block_of p v q a) < c + 1)
      × (c + 1 < stamp c (block_of p v q a) + busy_cycles p (pool_at p q))

  abbrev pub Fills : View → ℕ → ℕ → List ℤ → Type 0
  Fills v q b samples = HasBlock p v q b × IsWriting p v q × (block_of p v q b ≡ Free)
      × IsUnfilled v q (fill_cycle p v q)
      × (samples ≡ samples_in p v.expect (fill_cycle p v q) q)

  -- all words of the block have their samples
  abbrev pub filled_whole : View → ℕ → ℕ → View
  filled_whole v q b = view_block p v q b (Filling (pool_at p q).words)

  -- ANNOUNCING: the block that was filled in this cycle is out, with all readers of the pool to
  -- come
  abbrev pub IsFull : View → ℕ → ℕ → Type 0
  IsFull v q b = IsFirstFilled p v q b × (block_of p v q b ≡ Filling (pool_at p q).words)

  abbrev pub Announces : View → ℕ → Type 0
  Announces v q = IsAtPool p v q × ((b : ℕ) × IsFull v q b)

  abbrev pub HasAnnounced : View → ℕ → View → Type 0
  HasAnnounced v q w = (b : ℕ) × IsFull v q b × (w ≡ readers_stored p v q b)

  -- PUBLISHING: the block of the link's pool that was announced in this cycle has its number stored
  -- in the link's area
  abbrev pub IsNew : View → ℕ → ℕ → Type 0
  IsNew v l b = IsFirstFilled p v (pool_of p l) b
      × (block_of p v (pool_of p l) b ≡ Out (write_cycle p v l + 1))

  abbrev pub Publishes : View → ℕ → Type 0
  Publishes v l = IsWriter p v l × HasPool p v (pool_of p l)
      × ((write_of v l).loaded ≡ write_cycle p v l + 1)
      × ((write_of v l).stored ≡ write_cycle p v l) × ((b : ℕ) × IsNew v l b)

  abbrev pub HasPublished : View → ℕ → View → Type 0
  HasPublished v l w = (b : ℕ) × IsNew v l b × (w ≡ have_stored p v l b)
