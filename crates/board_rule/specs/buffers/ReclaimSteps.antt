-- The step of the node that fills a pool by which it has a block of the pool again: what it asks of
-- the view of its seat, and the view after it. Pools and blocks are given by number.
-- Source: PipeWire's documentation, "SPA Buffers"; the words of pools are this project's own.
use Rattle.std.specs.Prelude.{◌≡◌, ℕ, ◌+◌, ◌-◌, ◌<◌, ◌≤◌, ◌⊎◌, cond, eqb, Contains, slice_index, slice_set as set}
use Rattle.board_rule.specs.declared.view.BlockView.TheVariants.{Free, Out}
use Rattle.board_rule.specs.declared.view.View.{View}
use Rattle.board_rule.specs.Layout.{BoardLayout, first}
use Rattle.board_rule.specs.buffers.Areas.{stored_id}
use Rattle.board_rule.specs.buffers.BlockReadings.{delay_at, busy_cycles}
use Rattle.board_rule.specs.buffers.Spans.{block_at}
use Rattle.board_rule.specs.buffers.EndViews.{write_of, pool_at, block_of}
use Rattle.board_rule.specs.buffers.BlockSteps.{fill_cycle, IsLoaded, HasBlock}

-- one more than the cycle in which a pool was reclaimed last, as a view has it
abbrev pub reclaimed_of : View → ℕ → ℕ
reclaimed_of v q = slice_index v.reclaimed q

module _ (p : BoardLayout) where
  -- the stamp of the block that is due in this cycle: it was announced one cycle ago, or two where
  -- a link of the pool is delayed
  abbrev pub due_stamp : View → ℕ → ℕ
  due_stamp v q = fill_cycle p v q + 1 - busy_cycles p (pool_at p q)

  -- of the blocks that are out b has the least stamp, and is the first such one
  pub record IsOldestOut (v : View) (q b n : ℕ) : Type 0 where
    pub inside : b < (pool_at p q).blocks
    pub is : block_of p v q b ≡ Out n
    pub oldest : (a m : ℕ) → a < (pool_at p q).blocks → block_of p v q a ≡ Out m → n ≤ m
    pub before : (a : ℕ) → a < b → block_of p v q a ≡ Out n → ⊥

  -- b is that block if any is out
  abbrev pub IsOldestOfAny : View → ℕ → ℕ → Type 0
  IsOldestOfAny v q b = (a n : ℕ) → a < (pool_at p q).blocks → block_of p v q a ≡ Out n
      → (m : ℕ) × IsOldestOut v q b m

  -- the pool is not yet reclaimed in this cycle
  abbrev pub IsUnreclaimed : View → ℕ → ℕ → Type 0
  IsUnreclaimed v q c = first p + 1 < reclaimed_of v q → reclaimed_of v q ≤ c

  -- LOADING THE READERS, where all links of the pool are loaded in this cycle, of the block that is
  -- due: it is known to be out since then, or it is the one that is out longest, and the pool not
  -- yet reclaimed in a cycle that is not the first
  abbrev pub IsNext : View → ℕ → ℕ → Type 0
  IsNext v q b = ((block_of p v q b ≡ Out (due_stamp v q))
      × (busy_cycles p (pool_at p q) ≤ fill_cycle p v q + 1))
      ⊎ (IsOldestOfAny v q b × IsUnreclaimed v q (fill_cycle p v q)
      × (first p < fill_cycle p v q))

  abbrev pub LoadsReaders : View → ℕ → ℕ → Type 0
  LoadsReaders v q b = HasBlock p v q b × IsLoaded p v q × IsNext v q b

  -- found 0, it is free
  abbrev pub readers_loaded : View → ℕ → ℕ → ℕ → View
  readers_loaded v q b found = cond (eqb found 0) (record v {
    blocks = set v.blocks (block_at p q b) Free;
    reclaimed = set v.reclaimed q (fill_cycle p v q + 1);
  }) v

  -- WHAT IT FINDS: the block is the one that is out longest, and due
  abbrev pub IsDue : View → ℕ → ℕ → Type 0
  IsDue v q b = IsOldestOut v q b (due_stamp v q)

  -- it is the block whose number the readers gave back on each link of the pool that is as late as
  -- the pool
  abbrev pub IsReturned : View → ℕ → ℕ → Type 0
  IsReturned v q b = (l : ℕ) → Contains (pool_at p q).links l
      → delay_at p l + 1 ≡ busy_cycles p (pool_at p q)
      → (write_of v l).stored ≡ fill_cycle p v q → first p < fill_cycle p v q
      → stored_id (write_of v l) (delay_at p l) ≡ b

  -- in the second cycle it is block 0 where the pool has a delayed link
  abbrev pub IsZeroAtSecond : View → ℕ → ℕ → Type 0
  IsZeroAtSecond v q b = busy_cycles p (pool_at p q) ≡ 2 → fill_cycle p v q ≡ first p + 1
      → b ≡ 0

  abbrev pub FindsDue : View → ℕ → ℕ → Type 0
  FindsDue v q b = IsDue v q b × IsReturned v q b × IsZeroAtSecond v q b
