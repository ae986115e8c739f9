-- The ends of a way after one of them was used.
use Rattle.std.proofs.Common.{◌≡◌, ◌≢◌, ℕ, zero, suc, ◌<◌, List, [], ◌∷◌, length, set, get_or, inl, inr, sym, refl, ap, ◌∙◌, subst, ⊎_elim, arith, ◌⊎◌, length-set}
use Rattle.std.specs.Prelude.{Some, slice_get, unwrap_or}
use Rattle.std.proofs.lemmas.Option.{none-some, slice_get-get_or}
use Rattle.ready_queues.specs.declared.end.End.{End}
use Rattle.ready_queues.specs.declared.lane.Lane.{Lane}
use Rattle.ready_queues.specs.Ends.{IsEndOf, AreEndsOf}

pub some_is : {A : Type 0} (a b : A) → Some a ≡ Some b → a ≡ b
some_is a b e = ap (λ o. unwrap_or o a) e

module _ {A : Type 0} where
  pub slice_at_set : (l : List A) (i j : ℕ) (a b : A) → slice_get (set l i a) j ≡ Some b → ((j ≡ i) × (a ≡ b)) ⊎ ((j ≢ i) × (slice_get l j ≡ Some b))
  slice_at_set [] i j a b e = absurd (none-some b e)
  slice_at_set (x ∷ xs) zero zero a b e = inl (refl, some_is a b e)
  slice_at_set (x ∷ xs) zero (suc j) a b e = inr ((λ h. omega arith), e)
  slice_at_set (x ∷ xs) (suc i) zero a b e = inr ((λ h. omega arith), e)
  slice_at_set (x ∷ xs) (suc i) (suc j) a b e = ⊎_elim (λ t. inl (ap suc t.0, t.1)) (λ t. let n = t.0 in inr ((λ h. n (omega arith)), t.1)) (slice_at_set xs i j a b e)

-- what holds of each end and itself, and of the one that was used and what it became
pub related : (R : ℕ → End → End → Type 0) (ends : List End) (k : ℕ) (new : End) → ((j : ℕ) (e : End) → j ≢ k → R j e e)
    → ((e : End) → slice_get ends k ≡ Some e → R k e new)
    → (l : ℕ) (a b : End) → slice_get ends l ≡ Some a → slice_get (set ends k new) l ≡ Some b → R l a b
related R ends k new same used l a b was now = ⊎_elim
    (λ (t : (l ≡ k) × (new ≡ b)). subst (λ (p : ℕ × End). R p.0 a p.1) (λ i. (sym t.0 i, t.1 i)) (used a (subst (λ (j : ℕ). slice_get ends j ≡ Some a) t.0 was)))
    (λ (t : (l ≢ k) × (slice_get ends l ≡ Some b)). subst (R l a) (some_is a b (sym was ∙ t.1)) (same l a t.0))
    (slice_at_set ends k l new b now)

module _ (owner : List ℕ) (lanes : List Lane) (ends : List End) (are : AreEndsOf owner lanes ends) where
  pub end_at : (k : ℕ) (lane : Lane) (e : End) → k < length lanes → IsEndOf owner k (get_or lanes k lane) (get_or ends k e)
  end_at k lane e low = let n = are.count in are.each k (get_or lanes k lane) (get_or ends k e) (slice_get-get_or lanes k lane low) (slice_get-get_or ends k e (omega arith))

  pub ends_set : (k : ℕ) (new : End) → ((lane : Lane) → slice_get lanes k ≡ Some lane → IsEndOf owner k lane new) → AreEndsOf owner lanes (set ends k new)
  ends_set k new is = record {
    count = length-set ends k new ∙ are.count;
    each = λ l lane e here at. ⊎_elim
        (λ (t : (l ≡ k) × (new ≡ e)). subst (λ (p : ℕ × End). IsEndOf owner p.0 lane p.1) (λ i. (sym t.0 i, t.1 i))
        (is lane (subst (λ (j : ℕ). slice_get lanes j ≡ Some lane) t.0 here)))
        (λ (t : (l ≢ k) × (slice_get ends l ≡ Some e)). are.each l lane e here t.1)
        (slice_at_set ends k l new e at);
  }
