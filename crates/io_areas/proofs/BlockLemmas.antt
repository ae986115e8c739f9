-- The blocks of a pool: where a view has them, and the one that is announced.
use Rattle.std.proofs.Common.{◌≡◌, ◌≢◌, ℕ, ◌+◌, ◌<◌, List, length, refl, ap, arith, length-set}
use Rattle.std.proofs.Common.{get_or-set_same, get_or-set_other}
use Rattle.std.proofs.Common.{set-set}
use mathlib.Core.Logic.{dite}
use native.Mathlib.Decide.{dec_le}
use Rattle.pw_graph.specs.declared.pools.PoolShape.{PoolShape}
use Rattle.pw_graph.specs.Pools.{pools_of}
use Rattle.board_rule.specs.declared.view.BlockView.{BlockView}
use Rattle.board_rule.specs.declared.view.BlockView.TheVariants.{Free, Filling, Out}
use Rattle.board_rule.specs.declared.view.View.{View}
use Rattle.board_rule.specs.Layout.{BoardLayout}
use Rattle.board_rule.specs.buffers.Spans.{block_at}
use Rattle.board_rule.specs.buffers.EndViews.{pool_at, block_of, view_block}
use Rattle.board_rule.specs.buffers.BufferReads.{HasPool}
use Rattle.board_rule.specs.buffers.BlockSteps.{fill_cycle, StoresReaders, readers_stored}
use Rattle.board_rule.proofs.buffers.HolderLemmas.{take_less, pool_there}
use Rattle.io_areas.specs.Writing.{IsAtPool}
use Rattle.io_areas.proofs.AtPoolLemmas.{has_block}
use Rattle.io_areas.proofs.KeptLemmas.{IsKept, at_again}

module _ (p : BoardLayout) where
  -- a lower pool has its blocks at lower indexes
  lower_pool : (q r b a : ℕ) → q < length (pools_of p.shape) → b < (pool_at p q).blocks → q < r → block_at p q b < block_at p r a
  lower_pool q r b a inside low h = let s = take_less (λ (x : PoolShape). x.blocks) (pools_of p.shape) q r (pool_at p q) h
      (pool_there p q inside) in
      omega arith

  indexes_apart : (q r b a : ℕ) → q < length (pools_of p.shape) → r < length (pools_of p.shape) → b < (pool_at p q).blocks
      → a < (pool_at p r).blocks → r ≢ q
      → block_at p r a ≢ block_at p q b
  indexes_apart q r b a hq hr hb ha o e = dite (dec_le q r)
      (λ le. let z = lower_pool q r b a hq hb (omega arith) in omega arith)
      (λ gt. let z = lower_pool r q a b hr ha (omega arith) in omega arith)

  module _ (v : View) (q b : ℕ) (y : BlockView) where
    pub block_kept : IsKept v (view_block p v q b y)
    block_kept = record { same = refl; ends = refl; room = length-set v.blocks (block_at p q b) y }

    pub here : HasPool p v q → b < (pool_at p q).blocks → block_of p (view_block p v q b y) q b ≡ y
    here h low = let room = h.2 in get_or-set_same v.blocks (block_at p q b) y Free (omega arith)

    pub else : (a : ℕ) → a ≢ b → block_of p (view_block p v q b y) q a ≡ block_of p v q a
    else a o = get_or-set_other v.blocks (block_at p q b) (block_at p q a) y Free (λ z. o (omega arith))

    -- the blocks of other pools stay
    pub elsewhere : HasPool p v q → b < (pool_at p q).blocks → (r a : ℕ) → r < length (pools_of p.shape) → a < (pool_at p r).blocks → r ≢ q
        → block_of p (view_block p v q b y) r a ≡ block_of p v r a
    elsewhere h low r a there under o = get_or-set_other v.blocks (block_at p q b) (block_at p r a) y Free
        (indexes_apart q r b a h.0 there low under o)

  -- a free block that is filled whole is announced
  module _ (v : View) (q b : ℕ) (at : IsAtPool p v q) (low : b < (pool_at p q).blocks) where
    abbrev filled : View
    filled = view_block p v q b (Filling (pool_at p q).words)

    pub may_announce : StoresReaders p filled q b
    may_announce = (
      has_block p filled q b (at_again p v filled (block_kept v q b (Filling (pool_at p q).words)) q at) low,
      here v q b (Filling (pool_at p q).words) at.0 low,
    )

    pub announced : readers_stored p filled q b ≡ view_block p v q b (Out (fill_cycle p v q + 1))
    announced = ap (λ (bs : List BlockView). record v { blocks = bs })
        (set-set v.blocks (block_at p q b) (Filling (pool_at p q).words) (Out (fill_cycle p v q + 1)))
