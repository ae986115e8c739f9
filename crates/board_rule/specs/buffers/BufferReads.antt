-- What a seat is asked of the blocks of a pool: the one that is filled in this cycle, and the one
-- that has been out longest.
-- Source: this project's own.
use Rattle.std.specs.Prelude.{◌≡◌, ℕ, ◌+◌, ◌<◌, ◌≤◌, ◌⊎◌, Bool, false, cond, eqb, leb, Option, Some, option_map, unwrap_or, length}
use Rattle.pw_graph.specs.Pools.{pools_of}
use Rattle.board_rule.specs.declared.view.BlockView.{BlockView}
use Rattle.board_rule.specs.declared.view.BlockView.TheVariants.{Free, Filling, Out}
use Rattle.board_rule.specs.declared.view.View.{View}
use Rattle.board_rule.specs.Layout.{BoardLayout}
use Rattle.board_rule.specs.buffers.Spans.{block_at}
use Rattle.board_rule.specs.buffers.EndViews.{pool_at, filler_of, block_of}
use Rattle.board_rule.specs.activation.SeatNodes.{IsMember}
use Rattle.board_rule.specs.buffers.BlockSteps.{fill_cycle}

-- a block is filled with all its `words`, or was announced in the cycle before the stamp
abbrev pub is_filled : ℕ → ℕ → BlockView → Bool
is_filled words stamp Free = false
is_filled words stamp (Filling i) = eqb i words
is_filled words stamp (Out n) = eqb n stamp

-- the block that is out longest, with its stamp, where `before` is that of the blocks before the
-- number b
abbrev pub older : Option (ℕ × ℕ) → ℕ → BlockView → Option (ℕ × ℕ)
older before b (Out n) = unwrap_or (option_map (λ o. cond (leb o.1 n) before (Some (b, n))) before)
    (Some (b, n))
older before b _ = before

module _ (p : BoardLayout) where
  -- the pool is filled by a node of the seat, which may have ended its last cycle
  abbrev pub HasPool : View → ℕ → Type 0
  HasPool v q = (q < length (pools_of p.shape)) × IsMember false p v (filler_of p q)
      × (block_at p q (pool_at p q).blocks ≤ length v.blocks)

  -- the block b was filled whole in this cycle, whether it is announced or not
  abbrev pub IsFilled : View → ℕ → ℕ → Type 0
  IsFilled v q b = (block_of p v q b ≡ Filling (pool_at p q).words)
      ⊎ (block_of p v q b ≡ Out (fill_cycle p v q + 1))

  -- it is the first such block
  pub record IsFirstFilled (v : View) (q b : ℕ) : Type 0 where
    pub inside : b < (pool_at p q).blocks
    pub is : IsFilled v q b
    pub before : (a : ℕ) → a < b → IsFilled v q a → ⊥
