-- The steps of the node that fills a pool on its blocks: what each asks of the view of its seat,
-- and the view after it. Pools and blocks are given by number.
-- Source: PipeWire's documentation, "SPA Buffers"; the words of pools are this project's own.
use Rattle.std.specs.Prelude.{◌≡◌, ℕ, ◌+◌, ◌<◌, ◌⊎◌, true, false, length, Contains}
use Rattle.pw_graph.specs.Pools.{pools_of}
use Rattle.board_rule.specs.declared.view.BlockView.TheVariants.{Free, Filling, Out}
use Rattle.board_rule.specs.declared.view.View.{View}
use Rattle.board_rule.specs.Layout.{BoardLayout}
use Rattle.board_rule.specs.buffers.SampleWords.{packed, samples_in}
use Rattle.board_rule.specs.buffers.BlockReadings.{busy_cycles, is_busy, stamp}
use Rattle.board_rule.specs.buffers.Spans.{block_at}
use Rattle.board_rule.specs.buffers.EndViews.{write_of, pool_at, filler_of, block_of, view_block}
use Rattle.board_rule.specs.activation.SeatNodes.{cycle_of, HasNode}
use Rattle.board_rule.specs.activation.WorkSteps.{IsRunning}

module _ (p : BoardLayout) where
  -- the cycle that the node that fills a pool is in
  abbrev pub fill_cycle : View → ℕ → ℕ
  fill_cycle v q = cycle_of false v (filler_of p q)

  -- all links of a pool are loaded in this cycle, and it is the writer's turn on all of them
  abbrev pub IsLoaded : View → ℕ → Type 0
  IsLoaded v q = (l : ℕ) → Contains (pool_at p q).links l
      → (write_of v l).loaded ≡ fill_cycle v q + 1

  abbrev pub IsWriting : View → ℕ → Type 0
  IsWriting v q = (l : ℕ) → Contains (pool_at p q).links l
      → ((write_of v l).loaded ≡ fill_cycle v q + 1)
      × ((write_of v l).stored ≡ fill_cycle v q)

  -- the node that fills the pool is one of the seat, and works
  abbrev pub HasBlock : View → ℕ → ℕ → Type 0
  HasBlock v q b = (q < length (pools_of p.shape)) × (b < (pool_at p q).blocks)
      × (block_at p q b < length v.blocks)
      × HasNode false p v (filler_of p q) × IsRunning false v (filler_of p q)

  -- STORING A SAMPLE WORD of this cycle: the block is filled up to the word, or it is free and no
  -- block of its pool is due or of this cycle
  abbrev pub CanFill : View → ℕ → ℕ → ℕ → ℕ → Type 0
  CanFill v q b i c = (block_of p v q b ≡ Filling i)
      ⊎ ((block_of p v q b ≡ Free) × (i ≡ 0) ×
      ((a : ℕ) → a < (pool_at p q).blocks → is_busy (block_of p v q a) ≡ true
      → (stamp c (block_of p v q a) < c + 1)
      × (c + 1 < stamp c (block_of p v q a) + busy_cycles p (pool_at p q))))

  abbrev pub StoresSample : View → ℕ → ℕ → ℕ → ℕ → Type 0
  StoresSample v q b i word = HasBlock v q b × IsWriting v q × (i < (pool_at p q).words)
      × (word ≡ packed (samples_in p v.expect (fill_cycle v q) q) i)
      × CanFill v q b i (fill_cycle v q)

  abbrev pub sample_stored : View → ℕ → ℕ → ℕ → View
  sample_stored v q b i = view_block p v q b (Filling (i + 1))

  -- STORING THE READERS of a block that is filled whole: it is out, announced in this cycle
  abbrev pub StoresReaders : View → ℕ → ℕ → Type 0
  StoresReaders v q b = HasBlock v q b × (block_of p v q b ≡ Filling (pool_at p q).words)

  abbrev pub readers_stored : View → ℕ → ℕ → View
  readers_stored v q b = view_block p v q b (Out (fill_cycle v q + 1))
