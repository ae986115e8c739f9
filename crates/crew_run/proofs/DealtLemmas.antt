-- What holds of those that were held and of what came back, from what holds of all members.
use Rattle.std.proofs.Common.{◌≡◌, ◌⊎◌, ℕ, zero, suc, ◌+◌, ◌<◌, Bool, List, [], ◌∷◌, length, get_or, refl, sym, ap, subst, arith, ⊎_elim, inl, inr}
use Rattle.std.specs.Prelude.{All, Contains}
use Rattle.std.proofs.lemmas.List.Elements.{All-cons, All-head, All-tail, Contains-append_right, Contains-append_left}
use Rattle.crew_run.specs.Dealt.{AreDealt}

module _ {M B : Type 0} (R : M → B → Type 0) where
  -- AS MANY as the members
  pub dealt_count : (ms : List M) (kept : List Bool) (held : List M) (backs : List B) → AreDealt R ms kept held backs
      → length held + length backs ≡ length ms
  dealt_count [] kept held backs all = let a = ap (λ (l : List M). length l) all.1 in let b = ap (λ (l : List B). length l) all.2 in omega (arith, a, b)
  dealt_count (m ∷ ms) kept held backs all = ⊎_elim
      (λ a. let e = ap (λ (l : List M). length l) a.3 in let n = dealt_count ms a.0 a.1 backs a.4 in omega (arith, e, n))
      (λ a. let e = ap (λ (l : List B). length l) a.4 in let n = dealt_count ms a.0 held a.2 a.6 in omega (arith, e, n))
      all

  -- those that were held are members
  pub held_all : (P : M → Type 0) (ms : List M) (kept : List Bool) (held : List M) (backs : List B) → AreDealt R ms kept held backs
      → All P ms → All P held
  held_all P [] kept held backs all each = subst (All P) (sym all.1) (λ k d low. absurd (omega (arith, low)))
  held_all P (m ∷ ms) kept held backs all each = ⊎_elim
      (λ a. subst (All P) (sym a.3) (All-cons P m a.1 (All-head P m ms each) (held_all P ms a.0 a.1 backs a.4 (All-tail P m ms each))))
      (λ a. held_all P ms a.0 held a.2 a.6 (All-tail P m ms each))
      all

  -- what came back came of members
  pub backs_all : (P : M → Type 0) (Q : B → Type 0) → ((m : M) (b : B) → P m → R m b → Q b)
      → (ms : List M) (kept : List Bool) (held : List M) (backs : List B) → AreDealt R ms kept held backs → All P ms → All Q backs
  backs_all P Q gives [] kept held backs all each = subst (All Q) (sym all.2) (λ k d low. absurd (omega (arith, low)))
  backs_all P Q gives (m ∷ ms) kept held backs all each = ⊎_elim
      (λ a. backs_all P Q gives ms a.0 a.1 backs a.4 (All-tail P m ms each))
      (λ a. subst (All Q) (sym a.4) (All-cons Q a.1 a.2 (gives m a.1 (All-head P m ms each) a.5)
      (backs_all P Q gives ms a.0 held a.2 a.6 (All-tail P m ms each))))
      all

  -- EACH MEMBER is among those that were held, or something came back of it
  pub dealt_at : (ms : List M) (kept : List Bool) (held : List M) (backs : List B) → AreDealt R ms kept held backs
      → (i : ℕ) (d : M) → i < length ms → Contains held (get_or ms i d) ⊎ ((b : B) × R (get_or ms i d) b × Contains backs b)
  dealt_at [] kept held backs all i d low = absurd (omega (arith, low))
  dealt_at (m ∷ ms) kept held backs all zero d low = ⊎_elim
      (λ a. inl (subst (λ (l : List M). Contains l m) (sym a.3) (Contains-append_left (m ∷ []) a.1 m (0, omega arith, refl))))
      (λ a. inr (a.1, a.5, subst (λ (l : List B). Contains l a.1) (sym a.4) (Contains-append_left (a.1 ∷ []) a.2 a.1 (0, omega arith, refl))))
      all
  dealt_at (m ∷ ms) kept held backs all (suc i) d low = ⊎_elim
      (λ a. ⊎_elim
      (λ c. inl (subst (λ (l : List M). Contains l (get_or ms i d)) (sym a.3) (Contains-append_right (m ∷ []) a.1 (get_or ms i d) c)))
      (λ c. inr c)
      (dealt_at ms a.0 a.1 backs a.4 i d (omega (arith, low))))
      (λ a. ⊎_elim
      (λ c. inl c)
      (λ c. inr (c.0, c.1, subst (λ (l : List B). Contains l c.0) (sym a.4) (Contains-append_right (a.1 ∷ []) a.2 c.0 c.2)))
      (dealt_at ms a.0 held a.2 a.6 i d (omega (arith, low))))
      all
