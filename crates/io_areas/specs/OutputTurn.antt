-- The turn of a node on a pool that it fills.
-- Source: PipeWire's documentation, "SPA Buffers"; one pool an output port is this project's own.
use Rattle.std.specs.Prelude.{◌≡◌, ◌≢◌, ℕ, ◌+◌, ◌<◌, Contains, length, false}
use Rattle.pw_graph.specs.Pools.{pools_of}
use Rattle.board_rule.specs.declared.view.View.{View}
use Rattle.board_rule.specs.Layout.{BoardLayout}
use Rattle.board_rule.specs.buffers.EndViews.{pool_at, filler_of, write_of, block_of}
use Rattle.board_rule.specs.activation.WorkSteps.{IsRunning}
use Rattle.board_rule.specs.buffers.BlockSteps.{fill_cycle}
use Rattle.board_rule.specs.activation.SeatNodes.{IsCycle}
use Rattle.board_rule.specs.buffers.ReclaimSteps.{reclaimed_of}
use Rattle.board_rule.specs.buffers.BufferReads.{HasPool}
use Rattle.io_areas.specs.Ends.{IsWrittenUpTo}

-- the pool's node is one of the seat, with cycles left, and works, and has touched none of its
-- links in this cycle
pub record MayWriteOutput (p : BoardLayout) (v : View) (q : ℕ) : Type 0 where
  pub has : HasPool p v q
  pub runs : IsRunning false v (filler_of p q)
  pub cycle : IsCycle p (fill_cycle p v q)
  pub even : (l : ℕ) → Contains (pool_at p q).links l → IsWrittenUpTo v l (fill_cycle p v q)

-- each link of the pool is published in this cycle; only its links, its blocks and its reclaims are
-- others
pub record HasWrittenOutput (p : BoardLayout) (v : View) (q : ℕ) (w : View) : Type 0 where
  pub same : w ≡ record v { writes = w.writes; blocks = w.blocks; reclaimed = w.reclaimed }
  pub ends : length w.writes ≡ length v.writes
  pub room : length w.blocks ≡ length v.blocks
  pub even : (l : ℕ) → Contains (pool_at p q).links l
      → IsWrittenUpTo w l (fill_cycle p v q + 1)
  pub other_links : (l : ℕ) → (Contains (pool_at p q).links l → ⊥)
      → write_of w l ≡ write_of v l
  pub other_pools : (r b : ℕ) → r < length (pools_of p.shape) → b < (pool_at p r).blocks
      → r ≢ q
      → block_of p w r b ≡ block_of p v r b
  pub other_reclaims : (r : ℕ) → r ≢ q → reclaimed_of w r ≡ reclaimed_of v r
