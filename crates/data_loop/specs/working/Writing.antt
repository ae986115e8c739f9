-- The turn of a node on the pools that it fills.
-- Source: PipeWire's documentation, "SPA Buffers"; one pool an output port is this project's own.
use Rattle.std.specs.Prelude.{◌≡◌, ◌≢◌, ℕ, ℤ, ◌+◌, ◌<◌, List, All, AllPairs, Contains, length}
use Rattle.pw_graph.specs.Pools.{pools_of}
use Rattle.board_rule.specs.declared.view.View.{View}
use Rattle.board_rule.specs.Layout.{BoardLayout}
use Rattle.board_rule.specs.buffers.SampleWords.{samples_in}
use Rattle.board_rule.specs.buffers.EndViews.{pool_at, write_of, block_of}
use Rattle.board_rule.specs.buffers.BlockSteps.{fill_cycle}
use Rattle.board_rule.specs.buffers.ReclaimSteps.{reclaimed_of}
use Rattle.io_areas.specs.Ends.{IsWrittenUpTo}
use Rattle.io_areas.specs.FreeBlocks.{FreeBlocks}
use Rattle.io_areas.specs.OutputTurn.{MayWriteOutput}
use Rattle.data_loop.specs.declared.own_pools.OwnPools.{OwnPools}
use Rattle.data_loop.specs.OwnPools.{queue_of, AreSamePools}

-- the node works, has touched no link of the pool in this cycle, and its blocks are at rest
abbrev pub MayFill : BoardLayout → View → OwnPools → ℕ → Type 0
MayFill p v own q = MayWriteOutput p v q × FreeBlocks p v q (fill_cycle p v q) (queue_of own q)

abbrev pub MayFillAll : BoardLayout → View → OwnPools → List ℕ → Type 0
MayFillAll p v own pools = All (MayFill p v own) pools × AllPairs (λ q r. q ≢ r) pools

-- the pool gives these samples in this cycle
abbrev pub Puts : BoardLayout → View → List ℤ → ℕ → Type 0
Puts p v samples q = samples ≡ samples_in p v.expect (fill_cycle p v q) q

-- the blocks of a pool, its reclaims and the list of its free ones are as before
abbrev pub IsLeft : BoardLayout → View → OwnPools → ℕ → View → OwnPools → Type 0
IsLeft p v old r w new = (queue_of new r ≡ queue_of old r)
    × ((b : ℕ) → b < (pool_at p r).blocks → block_of p w r b ≡ block_of p v r b)
    × (reclaimed_of w r ≡ reclaimed_of v r)

-- from the view v to the view w, each of the pools is filled and published in this cycle; no other
-- pool or link is touched. `old` and `new` have the free blocks before and after
pub record AreWritten (p : BoardLayout) (v : View) (old : OwnPools) (pools : List ℕ)
    (w : View) (new : OwnPools) : Type 0 where
  pub same : w ≡ record v { writes = w.writes; blocks = w.blocks; reclaimed = w.reclaimed }
  pub ends : length w.writes ≡ length v.writes
  pub room : length w.blocks ≡ length v.blocks
  pub kept : AreSamePools old new
  pub even : (q l : ℕ) → Contains pools q → Contains (pool_at p q).links l
      → IsWrittenUpTo w l (fill_cycle p v q + 1)
  pub stocks : (q : ℕ) → Contains pools q
      → FreeBlocks p w q (fill_cycle p v q + 1) (queue_of new q)
  pub other_links : (l : ℕ) → ((q : ℕ) → Contains pools q
      → Contains (pool_at p q).links l → ⊥)
      → write_of w l ≡ write_of v l
  pub other_pools : (r : ℕ) → r < length (pools_of p.shape) → (Contains pools r → ⊥)
      → IsLeft p v old r w new
