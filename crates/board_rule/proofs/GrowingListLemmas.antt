-- Where the first element that passes a test is, and how many pass, in a list that grows at its
-- end.
use Rattle.std.proofs.Common.{◌≡◌, ℕ, zero, suc, ◌+◌, ◌<◌, ◌≤◌, ◌⊎◌, inl, inr, ⊎_elim, Bool, true, false, not, cond, List, []}
use Rattle.std.proofs.Common.{◌∷◌, ◌++◌, map, length, refl, sym, ap, ◌∙◌, subst, arith, eq-eqb, ne_eqb, Some}
use mathlib.Core.Logic.{dite}
use native.Mathlib.Decide.{ℕ_discrete}
use Rattle.std.specs.Prelude.{count_by, slice_get}
use Rattle.std.specs.List.{position_or_len}
use Rattle.std.proofs.lemmas.List.Folds.{position_or_len_push}
use Rattle.std.proofs.lemmas.List.Sums.{sum_by-append, sum_by-cons}

module _ {X : Type 0} (f : X → Bool) where
  pub count_more : (xs : List X) (y : X) → count_by f (xs ++ y ∷ []) ≡ count_by f xs + cond (f y) 1 0
  count_more xs y = sum_by-append (λ x. cond (f x) 1 0) xs (y ∷ [])
      ∙ ap (λ k. count_by f xs + k) (sum_by-cons (λ x. cond (f x) 1 0) y [] ∙ (omega arith))

  first_by : (b : Bool) (c p l : ℕ) → (0 < c → p < l) → (c ≡ 0 → p ≡ l) → (0 < cond b 1 0 + c → cond (not b) (1 + p) 0 < suc l)
      × (cond b 1 0 + c ≡ 0 → cond (not b) (1 + p) 0 ≡ suc l)
  first_by true c p l some none = (λ h. omega arith, λ h. absurd (omega arith))
  first_by false c p l some none = (λ h. let a = some (omega arith) in omega arith, λ h. let a = none (omega arith) in omega arith)

  first_cases : (xs : List X) → (0 < count_by f xs → position_or_len f xs < length xs)
      × (count_by f xs ≡ 0 → position_or_len f xs ≡ length xs)
  first_cases [] = (λ h. absurd (omega arith), λ h. refl)
  first_cases (x ∷ xs) = let a = first_cases xs in let b = first_by (f x) (count_by f xs) (position_or_len f xs) (length xs) a.0 a.1 in
      let e : count_by f (x ∷ xs) ≡ cond (f x) 1 0 + count_by f xs = sum_by-cons (λ x. cond (f x) 1 0) x xs in
      (λ h. b.0 (subst (λ k. 0 < k) e h), λ h. b.1 (sym e ∙ h))

  -- some pass: the first is within; none pass: it is at the end
  pub first_within : (xs : List X) → 0 < count_by f xs → position_or_len f xs < length xs
  first_within xs h = (first_cases xs).0 h

  pub first_at_end : (xs : List X) → count_by f xs ≡ 0 → position_or_len f xs ≡ length xs
  first_at_end xs h = (first_cases xs).1 h

  -- one element more
  pub first_stays : (xs : List X) (y : X) → position_or_len f xs < length xs → position_or_len f (xs ++ y ∷ []) ≡ position_or_len f xs
  first_stays xs y h = position_or_len_push f xs y ∙ ap (λ b. cond b (length xs + cond (f y) 0 1) (position_or_len f xs))
      (ne_eqb (position_or_len f xs) (length xs) (λ z. omega arith))

  pub first_here : (xs : List X) (y : X) → position_or_len f xs ≡ length xs → f y ≡ true → position_or_len f (xs ++ y ∷ []) ≡ length xs
  first_here xs y h t = position_or_len_push f xs y
      ∙ ap (λ b. cond b (length xs + cond (f y) 0 1) (position_or_len f xs)) (eq-eqb (position_or_len f xs) (length xs) h)
      ∙ ap (λ b. length xs + cond b 0 1) t ∙ (omega arith)

  pub first_rises : (xs : List X) (y : X) → position_or_len f xs ≤ position_or_len f (xs ++ y ∷ [])
  first_rises xs y = dite (ℕ_discrete (position_or_len f xs) (length xs))
      (λ e. let a = position_or_len_push f xs y ∙ ap (λ b. cond b (length xs + cond (f y) 0 1) (position_or_len f xs))
      (eq-eqb (position_or_len f xs) (length xs) e) in omega arith)
      (λ o. let a = position_or_len_push f xs y ∙ ap (λ b. cond b (length xs + cond (f y) 0 1) (position_or_len f xs))
      (ne_eqb (position_or_len f xs) (length xs) o) in omega arith)

-- the elements are changed to such as a test does not distinguish from them
module _ {X : Type 0} (f : X → Bool) (h : X → X) (same : (x : X) → f (h x) ≡ f x) where
  pub count_mapped : (xs : List X) → count_by f (map h xs) ≡ count_by f xs
  count_mapped [] = refl
  count_mapped (x ∷ xs) = sum_by-cons (λ x. cond (f x) 1 0) (h x) (map h xs) ∙ (λ i. cond (same x i) 1 0 + count_mapped xs i)
      ∙ sym (sum_by-cons (λ x. cond (f x) 1 0) x xs)

  pub first_mapped : (xs : List X) → position_or_len f (map h xs) ≡ position_or_len f xs
  first_mapped [] = refl
  first_mapped (x ∷ xs) = λ i. cond (not (same x i)) (1 + first_mapped xs i) 0

module _ {X : Type 0} where
  -- what a list gives at an index, when it grows
  pub get_front : (xs ys : List X) (i : ℕ) (x : X) → slice_get xs i ≡ Some x → slice_get (xs ++ ys) i ≡ Some x
  get_front [] ys i x e = cc
  get_front (y ∷ xs) ys zero x e = e
  get_front (y ∷ xs) ys (suc i) x e = get_front xs ys i x e

  pub get_end : (xs : List X) (y : X) → slice_get (xs ++ y ∷ []) (length xs) ≡ Some y
  get_end [] y = refl
  get_end (x ∷ xs) y = get_end xs y

  -- an index in a list with one element more is an index before, or the last
  pub get_cases : (xs : List X) (y : X) (i : ℕ) (x : X) → slice_get (xs ++ y ∷ []) i ≡ Some x → (slice_get xs i ≡ Some x)
      ⊎ ((i ≡ length xs) × (y ≡ x))
  get_cases [] y zero x e = inr (refl, (cc))
  get_cases [] y (suc i) x e = cc
  get_cases (z ∷ xs) y zero x e = inl e
  get_cases (z ∷ xs) y (suc i) x e = ⊎_elim inl (λ (t : (i ≡ length xs) × (y ≡ x)). inr (ap suc t.0, t.1)) (get_cases xs y i x e)
