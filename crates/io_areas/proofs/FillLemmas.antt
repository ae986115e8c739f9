-- One more word of a block that is filled word by word.
use Rattle.std.proofs.Common.{◌≡◌, ℕ, ℤ, zero, suc, ◌+◌, ◌<◌, inl, inr, false, List, length, refl, sym, ap, ◌∙◌, arith, length-set}
use Rattle.std.proofs.Common.{get_or-set_same, set-set}
use Rattle.board_rule.specs.declared.view.BlockView.{BlockView}
use Rattle.board_rule.specs.declared.view.BlockView.TheVariants.{Free, Filling}
use Rattle.board_rule.specs.declared.view.View.{View}
use Rattle.board_rule.specs.Layout.{BoardLayout}
use Rattle.board_rule.specs.buffers.SampleWords.{packed}
use Rattle.board_rule.specs.buffers.Spans.{block_at}
use Rattle.board_rule.specs.buffers.EndViews.{pool_at, filler_of, view_block}
use Rattle.board_rule.specs.activation.SeatNodes.{HasNode}
use Rattle.board_rule.specs.buffers.BlockSteps.{StoresSample, sample_stored}
use Rattle.io_areas.specs.Writing.{Fills}

-- the first k words of the block have their samples
abbrev pub filling : BoardLayout → View → ℕ → ℕ → ℕ → View
filling p v q b zero = v
filling p v q b (suc k) = view_block p v q b (Filling (suc k))

pub filling_some : (p : BoardLayout) (v : View) (q b k : ℕ) → 0 < k → filling p v q b k ≡ view_block p v q b (Filling k)
filling_some p v q b zero h = absurd (omega arith)
filling_some p v q b (suc k) h = refl

module _ (p : BoardLayout) (v : View) (q b : ℕ) (xs : List ℤ) (h : Fills p v q b xs) where
  place : ℕ
  place = block_at p q b

  -- a record over the view is another at each view: it is built again
  has_again : (y : BlockView) → HasNode false p v (filler_of p q) → HasNode false p (view_block p v q b y) (filler_of p q)
  has_again y r = let a = r.0 in (
    record {
      inside = a.inside;
      follows = a.follows;
      loops = a.loops;
      owned = a.owned;
      there = a.there;
      knows = a.knows;
      owners = a.owners;
    },
    r.1,
    r.2,
  )

  pub can_store : (k : ℕ) → k < (pool_at p q).words → StoresSample p (filling p v q b k) q b k (packed xs k)
  can_store zero l = (h.0, h.1, l, ap (λ (y : List ℤ). packed y 0) h.4, inr (h.2, refl, h.3))
  can_store (suc k) l = let has = h.0 in let here : block_at p q b < length v.blocks = has.2 in (
    (
      has.0,
      has.1,
      (let e = length-set v.blocks (block_at p q b) (Filling (suc k)) in omega arith),
      has_again (Filling (suc k)) has.3,
      has.4,
    ),
    h.1,
    l,
    ap (λ (y : List ℤ). packed y (suc k)) h.4,
    inl (get_or-set_same v.blocks (block_at p q b) (Filling (suc k)) Free here),
  )

  pub stored_more : (k : ℕ) → sample_stored p (filling p v q b k) q b k ≡ filling p v q b (k + 1)
  stored_more zero = refl
  stored_more (suc k) = let one : suc (suc k) ≡ suc k + 1 = omega arith in
      ap (λ (l : List BlockView). record v { blocks = l }) (set-set v.blocks (block_at p q b) (Filling (suc k)) (Filling (suc k + 1)))
      ∙ ap (λ n. view_block p v q b (Filling n)) (sym one) ∙ ap (filling p v q b) one
