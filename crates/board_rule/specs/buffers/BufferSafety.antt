-- Buffer safety, said of the views of all seats of a board between any two steps.
-- Source: PipeWire's documentation, "SPA Buffers": a buffer is with its producer or with consumers.
use Rattle.std.specs.Prelude.{◌≡◌, ℕ, ◌<◌, Bool, List, slice_index}
use mathlib.Core.Option.{some}
use lib.ListN.{get_elem?}
use Rattle.pw_graph.specs.Layout.{readers_place}
use Rattle.board_rule.specs.declared.view.BlockView.TheVariants.{Out}
use Rattle.board_rule.specs.declared.view.View.{View}
use Rattle.board_rule.specs.Layout.{BoardLayout}
use Rattle.board_rule.specs.buffers.EndViews.{pool_at, pool_of, block_of}
use Rattle.board_rule.specs.buffers.BufferReads.{HasPool}
use Rattle.board_rule.specs.buffers.ReaderSteps.{stamp_read, ReadsBlock}

module _ (p : BoardLayout) where
  -- a node of the seat fills the pool, and has the block, free or being filled
  abbrev pub CanWrite : View → ℕ → ℕ → Type 0
  CanWrite v q b = HasPool p v q × (b < (pool_at p q).blocks)
      × ((n : ℕ) → block_of p v q b ≡ Out n → ⊥)

  -- BUFFER SAFETY: no block is with two writers, or with a writer and a reader, whatever the
  -- delays. `is_out`: the block that a reader has is out since the cycle whose reading cycle this
  -- is, as the seat knows that fills it. `is_counted`:
  -- its readers word, which that seat would have to find 0, is above 0
  pub record AreSafe (words : List ℕ) (views : List View) : Type 0 where
    pub one_writer : (i j q b : ℕ) (v u : View) → get_elem? views i ≡ some v
        → get_elem? views j ≡ some u
        → CanWrite v q b → CanWrite u q b → i ≡ j
    pub no_reader : (i j l b : ℕ) (is_driver : Bool) (v u : View) → get_elem? views i ≡ some v
        → get_elem? views j ≡ some u
        → ReadsBlock is_driver p v l b → CanWrite u (pool_of p l) b → ⊥
    pub is_out : (i j l b : ℕ) (is_driver : Bool) (v u : View) → get_elem? views i ≡ some v
        → get_elem? views j ≡ some u
        → ReadsBlock is_driver p v l b → HasPool p u (pool_of p l)
        → (b < (pool_at p (pool_of p l)).blocks)
        × (block_of p u (pool_of p l) b ≡ Out (stamp_read is_driver p v l))
    pub is_counted : (i l b : ℕ) (is_driver : Bool) (v : View) → get_elem? views i ≡ some v
        → ReadsBlock is_driver p v l b
        → 0 < slice_index words (readers_place p.shape (pool_of p l) b)
