-- What the buffer rule reads of blocks, of the links of a pool and of their ends.
-- Source: PipeWire's documentation, "SPA Buffers"; one pool that all links of a port read is this
-- project's own.
use Rattle.std.specs.Prelude.{ℕ, ◌+◌, Bool, true, false, cond, ltb, sum_by, slice_get}
use Rattle.std.specs.Prelude.{option_map, unwrap_or}
use Rattle.std.specs.List.{list_any}
use Rattle.pw_graph.specs.declared.pools.PoolShape.{PoolShape}
use Rattle.pw_graph.specs.Pools.{links_from}
use Rattle.board_rule.specs.declared.view.WriteView.{WriteView}
use Rattle.board_rule.specs.declared.view.ReadView.{ReadView}
use Rattle.board_rule.specs.declared.view.BlockView.{BlockView}
use Rattle.board_rule.specs.declared.view.BlockView.TheVariants.{Free, Filling, Out}
use Rattle.board_rule.specs.Layout.{BoardLayout}
use Rattle.board_rule.specs.buffers.Areas.{delay_by}

-- what all seats know of the links, by number, of the blocks, by pool and number, and of the
-- reclaims of each pool:
-- one more than the cycle of the last one
pub record Ends : Type 0 where
  pub writes : ℕ → WriteView
  pub reads : ℕ → ReadView
  pub blocks : ℕ → ℕ → BlockView
  pub reclaimed : ℕ → ℕ

abbrev pub is_busy : BlockView → Bool
is_busy Free = false
is_busy _ = true

-- one more than the cycle whose samples a block has, where its writer has ended `ended` cycles
abbrev pub stamp : ℕ → BlockView → ℕ
stamp ended Free = 0
stamp ended (Filling i) = ended + 1
stamp ended (Out n) = n

-- how many of its words have their samples
abbrev pub filled : ℕ → BlockView → ℕ
filled words Free = 0
filled words (Filling i) = i
filled words (Out n) = words

module _ (p : BoardLayout) where
  -- a link by its number
  abbrev pub delay_at : ℕ → ℕ
  delay_at l = unwrap_or (option_map delay_by (slice_get p.shape.links l)) 0

  -- for how many cycles a block of the pool is busy: until its writer has ended as many after the
  -- one before its stamp
  abbrev pub busy_cycles : PoolShape → ℕ
  busy_cycles x = cond (list_any (λ k. k.delayed) (links_from p.shape x.port)) 2 1

  -- how many readers of the pool have not yet lowered the block of the stamp n
  abbrev pub waiting : (ℕ → ReadView) → PoolShape → ℕ → ℕ
  waiting reads x n = sum_by (λ l. cond (ltb (reads l).lowered (n + delay_at l)) 1 0) x.links

  abbrev pub readers_of : (ℕ → ReadView) → PoolShape → BlockView → ℕ
  readers_of reads x (Out n) = waiting reads x n
  readers_of reads x _ = 0
