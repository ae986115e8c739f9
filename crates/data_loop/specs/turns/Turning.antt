-- The turn of a follower, from its waking to its rest: its links, its pools, what it does not
-- change. Nodes are indexes.
-- Source: PipeWire's documentation, "Graph Scheduling" and "SPA Buffers"; the calls are this
-- project's own.
use Rattle.std.specs.Prelude.{◌≡◌, ◌≢◌, ℕ, ◌+◌, ◌<◌, ◌≤◌, false, length, slice_index_or}
use Rattle.pw_graph.specs.Pools.{pools_of}
use Rattle.board_rule.specs.declared.view.View.{View}
use Rattle.board_rule.specs.Layout.{BoardLayout}
use Rattle.board_rule.specs.View.{node_of}
use Rattle.board_rule.specs.buffers.Spans.{block_at}
use Rattle.board_rule.specs.buffers.EndViews.{no_pool, pool_at, writer_of, reader_of, filler_of}
use Rattle.board_rule.specs.activation.SeatNodes.{HasNode}
use Rattle.activation_words.specs.Calls.{IsAwake}
use Rattle.activation_words.specs.Members.{IsResting}
use Rattle.io_areas.specs.PooledBoard.{IsPooledBoard}
use Rattle.io_areas.specs.Ends.{IsWrittenUpTo, IsReadUpTo}
use Rattle.io_areas.specs.FreeBlocks.{FreeBlocks}
use Rattle.data_loop.specs.declared.own_pools.OwnPools.{OwnPools}
use Rattle.data_loop.specs.OwnPools.{place_of, queue_of, Owns, AreSamePools}

-- what a loop has beside its nodes: its own pools, each once and with its free blocks, and room for
-- the blocks of all pools
pub record IsEquipped (p : BoardLayout) (v : View) (own : OwnPools) : Type 0 where
  pub plain : IsPooledBoard p
  pub places : length own.places ≡ length (pools_of p.shape)
  pub lists : length own.free.items ≡ length own.shapes
  pub once : (q r : ℕ) → q < length (pools_of p.shape) → r < length (pools_of p.shape)
      → Owns own q → place_of own q ≡ place_of own r → q ≡ r
  pub shapes_are : (q : ℕ) → q < length (pools_of p.shape) → Owns own q
      → slice_index_or own.shapes (place_of own q) no_pool ≡ pool_at p q
  pub blocks : (q : ℕ) → q < length (pools_of p.shape)
      → block_at p q (pool_at p q).blocks ≤ length v.blocks

-- the node m has done the cycles before c, and nothing of c, on all links that it reads or writes
-- and on all pools that it fills
pub record AreEven (p : BoardLayout) (v : View) (own : OwnPools) (m c : ℕ) : Type 0 where
  pub reads : (l : ℕ) → l < length p.shape.links → reader_of p l ≡ m → IsReadUpTo v l c
  pub writes : (l : ℕ) → l < length p.shape.links → writer_of p l ≡ m
      → IsWrittenUpTo v l c
  pub stocks : (q : ℕ) → q < length (pools_of p.shape) → filler_of p q ≡ m
      → FreeBlocks p v q c (queue_of own q)

-- the node waits for its next cycle
abbrev pub IsAtRest : BoardLayout → View → OwnPools → ℕ → Type 0
IsAtRest p v own m = IsResting p v m × AreEven p v own m (node_of v m).next

-- it is awake
pub record MayTurn (p : BoardLayout) (v : View) (own : OwnPools) (m : ℕ) : Type 0 where
  pub has : HasNode false p v m
  pub awake : IsAwake false v m
  pub even : AreEven p v own m (node_of v m).next

-- it rests again, a cycle later; each other node that rested still does, in its own cycle
pub record HasTurned (p : BoardLayout) (v : View) (old : OwnPools) (m : ℕ) (w : View)
    (new : OwnPools) : Type 0 where
  pub rests : IsAtRest p w new m
  pub later : (node_of w m).next ≡ (node_of v m).next + 1
  pub others : (n : ℕ) → n ≢ m → IsAtRest p v old n
      → IsAtRest p w new n × (node_of w n ≡ node_of v n)
  pub expect : w.expect ≡ v.expect
  pub room : length w.blocks ≡ length v.blocks
  pub kept : AreSamePools old new
