-- The blocks that a link names, and the reclaims of a pool.
-- Source: PipeWire's documentation, "SPA Buffers"; one pool that all links of a port read is this
-- project's own.
use Rattle.std.specs.Prelude.{◌≡◌, ℕ, ◌+◌, ◌<◌, ◌≤◌, Contains}
use Rattle.pw_graph.specs.declared.pools.PoolShape.{PoolShape}
use Rattle.board_rule.specs.declared.view.WriteView.{WriteView}
use Rattle.board_rule.specs.declared.view.BlockView.{BlockView}
use Rattle.board_rule.specs.declared.view.BlockView.TheVariants.{Out}
use Rattle.board_rule.specs.Layout.{BoardLayout, first}
use Rattle.board_rule.specs.buffers.Areas.{stored_id}
use Rattle.board_rule.specs.buffers.BlockReadings.{busy_cycles}

module _ (p : BoardLayout) where
  -- THE BLOCKS THAT A LINK NAMES, which is `late` by 0 or 1 and whose pool x is `reclaimed` in all
  -- cycles before that one. Of the stores `a` ago, 0 or 1, whose stamp is n: `out`: the block is
  -- out until it is reclaimed. `names`: no other block with the stamp is out. `zero`: the block
  -- that a delayed link names from the start on is number 0
  pub record NamesBlocks (x : PoolShape) (late reclaimed : ℕ) (w : WriteView)
      (blocks : ℕ → BlockView) : Type 0 where
    pub out : (a n : ℕ) → a ≤ late → n + a ≡ w.stored → first p < n + late
        → reclaimed < n + busy_cycles p x
        → blocks (stored_id w a) ≡ Out n
    pub zero : late ≡ 1 → (a : ℕ) → a ≤ 1 → first p + a ≡ w.stored
        → stored_id w a ≡ 0
    pub names : (a n b : ℕ) → a ≤ late → n + a ≡ w.stored → first p < n + late
        → b < x.blocks → blocks b ≡ Out n
        → stored_id w a ≡ b

  -- THE RECLAIMS of a pool x, a load of a readers word in each cycle but the first, where nothing
  -- is to be reclaimed.
  -- `turn`: it is after the loads of all links of the pool and before the stores. `until`: no
  -- block is out longer
  pub record Reclaims (x : PoolShape) (reclaimed : ℕ) (writes : ℕ → WriteView)
      (blocks : ℕ → BlockView) : Type 0 where
    pub begun : first p + 1 ≤ reclaimed
    pub turn : (l : ℕ) → Contains x.links l
        → ((writes l).stored ≤ reclaimed)
        × (first p + 1 < reclaimed → reclaimed ≤ (writes l).loaded)
    pub until : (b n : ℕ) → b < x.blocks → blocks b ≡ Out n
        → reclaimed < n + busy_cycles p x
