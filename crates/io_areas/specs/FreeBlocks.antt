-- The blocks of a pool between two turns of its node, and the list of the free ones. c is the cycle
-- of the node.
-- Source: PipeWire's documentation, "SPA Buffers"; one pool an output port is this project's own.
use Rattle.std.specs.Prelude.{◌≡◌, ◌≢◌, ℕ, ◌+◌, ◌-◌, ◌<◌, ◌≤◌, ◌⊎◌, cond, eqb, AllPairs, Contains, length, drop}
use Rattle.pw_graph.specs.declared.shape.Shape.{Shape}
use Rattle.pw_graph.specs.declared.pools.PoolShape.{PoolShape}
use Rattle.board_rule.specs.declared.view.BlockView.TheVariants.{Free, Out}
use Rattle.board_rule.specs.declared.view.View.{View}
use Rattle.board_rule.specs.Layout.{BoardLayout, first}
use Rattle.board_rule.specs.buffers.BlockReadings.{busy_cycles}
use Rattle.board_rule.specs.buffers.EndViews.{pool_at, block_of}
use Rattle.board_rule.specs.buffers.ReclaimSteps.{IsUnreclaimed}
use Rattle.board_rule.specs.View.{is_delayed}
use Rattle.io_areas.specs.Queue.{Queue, numbers_below}

-- the free blocks at the start of an epoch: all, ascending, but block 0 of a pool with a delayed
-- link, which is out
abbrev pub free_at_start : Shape → PoolShape → Queue
free_at_start shape x = record {
  free = drop (cond (is_delayed shape x) 1 0) (numbers_below x.blocks);
  blocks = x.blocks;
}

module _ (p : BoardLayout) where
  -- the stamps, each one more than the cycle of its block, of which a block is out before the node
  -- begins the cycle c:
  -- the last one, or the last two where a link of the pool is delayed, but none of a cycle before
  -- the first. To a pool with a delayed link the cycle before the first counts as one
  abbrev pub IsRecent : ℕ → ℕ → ℕ → Type 0
  IsRecent q c n = (n ≤ c) × (c < n + busy_cycles p (pool_at p q))
      × (first p + 1 < n + busy_cycles p (pool_at p q))

  -- how many these are
  abbrev pub recent_count : ℕ → ℕ → ℕ
  recent_count q c = cond (eqb c (first p)) (busy_cycles p (pool_at p q) - 1)
      (busy_cycles p (pool_at p q))

  -- one block of each of those stamps is out, and all others are free; `zero`: that of the cycle
  -- before the first is block 0. The list has free blocks, each once, and as many as there are. The
  -- pool is reclaimed in no later cycle
  pub record FreeBlocks (v : View) (q c : ℕ) (pool : Queue) : Type 0 where
    pub size : pool.blocks ≡ (pool_at p q).blocks
    pub enough : busy_cycles p (pool_at p q) ≤ (pool_at p q).blocks
    pub listed : (b : ℕ) → Contains pool.free b
        → (b < (pool_at p q).blocks) × (block_of p v q b ≡ Free)
    pub once : AllPairs (λ a b. a ≢ b) pool.free
    pub long : length pool.free + recent_count q c ≡ pool.blocks
    pub out : (n : ℕ) → IsRecent q c n
        → (b : ℕ) × (b < (pool_at p q).blocks) × (block_of p v q b ≡ Out n)
    pub one : (a b n : ℕ) → a < (pool_at p q).blocks → b < (pool_at p q).blocks
        → block_of p v q a ≡ Out n
        → block_of p v q b ≡ Out n → a ≡ b
    pub else : (b : ℕ) → b < (pool_at p q).blocks → (block_of p v q b ≡ Free)
        ⊎ ((n : ℕ) × IsRecent q c n × (block_of p v q b ≡ Out n))
    pub zero : IsRecent q c (first p) → block_of p v q 0 ≡ Out (first p)
    pub unreclaimed : IsUnreclaimed p v q c
