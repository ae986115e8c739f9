-- The most of the waves so far, with one more; the most of all is reached, and bounds each.
use Rattle.std.proofs.Common.{◌≡◌, ◌⊎◌, inl, inr, ℕ, zero, suc, ◌+◌, ◌<◌, ◌≤◌, max, Bool, true, false, cond, List, [], ◌∷◌, ◌++◌, length, get_or, take}
use Rattle.std.proofs.Common.{refl, sym, ap, ◌∙◌, subst, arith, append-nil}
use Rattle.std.specs.Prelude.{fold, filter, Contains}
use Rattle.std.proofs.lemmas.Bool.{cases_lt}
use Rattle.std.proofs.lemmas.List.Elements.{filter_more}
use Rattle.std.proofs.lemmas.List.Sums.{fold-append}

module _ {X : Type 0} (p : X → Bool) (f : ℕ → X → ℕ) (xs : List X) (i : ℕ) (d : X) (lt : i < length xs) (most next : ℕ)
    (e : most ≡ fold f 0 (filter p (take i xs))) where
  pub most_yes : p (get_or xs i d) ≡ true → next ≡ f most (get_or xs i d) → next ≡ fold f 0 (filter p (take (i + 1) xs))
  most_yes here n =
      let more : filter p (take (i + 1) xs) ≡ filter p (take i xs) ++ get_or xs i d ∷ [] =
      filter_more p xs i d lt ∙ ap (λ (b : Bool). filter p (take i xs) ++ cond b (get_or xs i d ∷ []) []) here in
      n ∙ (ap (λ (m : ℕ). f m (get_or xs i d)) e ∙ (sym (fold-append f 0 (filter p (take i xs)) (get_or xs i d ∷ [])) ∙ ap (fold f 0) (sym more)))

  pub most_no : p (get_or xs i d) ≡ false → next ≡ most → next ≡ fold f 0 (filter p (take (i + 1) xs))
  most_no here n =
      let same : filter p (take (i + 1) xs) ≡ filter p (take i xs) =
      filter_more p xs i d lt ∙ (ap (λ (b : Bool). filter p (take i xs) ++ cond b (get_or xs i d ∷ []) []) here ∙ append-nil (filter p (take i xs))) in
      n ∙ (e ∙ ap (fold f 0) (sym same))

-- the most of those that are in, from a number on
module _ {X : Type 0} (p : X → Bool) (f : X → ℕ) where
  abbrev most_of : ℕ → List X → ℕ
  most_of m xs = fold (λ most x. max most (f x)) m xs

  abbrev pub most_from : ℕ → List X → ℕ
  most_from m xs = most_of m (filter p xs)

  -- no less than that number
  bounds : (m : ℕ) (x : X) (xs : List X) (b : Bool) → ((k : ℕ) → k ≤ most_from k xs) → m ≤ most_of m (cond b (x ∷ filter p xs) (filter p xs))
  bounds m x xs true later = let l = later (max m (f x)) in omega (arith, l)
  bounds m x xs false later = later m

  starts : (m : ℕ) (xs : List X) → m ≤ most_from m xs
  starts m [] = omega arith
  starts m (x ∷ xs) = bounds m x xs (p x) (λ k. starts k xs)

  -- no less than each of them
  passes : (x y : X) (ys : List X) (m : ℕ) (b : Bool) → ((k : ℕ) → f x ≤ most_from k ys) → f x ≤ most_of m (cond b (y ∷ filter p ys) (filter p ys))
  passes x y ys m true later = later (max m (f y))
  passes x y ys m false later = later m

  enough_at : (x : X) → p x ≡ true → (ys : List X) (k m : ℕ) → k < length ys → get_or ys k x ≡ x → f x ≤ most_from m ys
  enough_at x here [] k m l e = absurd (omega (arith, l))
  enough_at x here (y ∷ ys) zero m l e =
      let later = starts (max m (f y)) ys in
      let same : f y ≡ f x = ap f e in
      subst (λ (b : Bool). f x ≤ most_of m (cond b (y ∷ filter p ys) (filter p ys))) (sym (ap p e ∙ here)) (omega (arith, later, same))
  enough_at x here (y ∷ ys) (suc k) m l e = passes x y ys m (p y) (λ j. enough_at x here ys k j (omega (arith, l)) e)

  pub most_enough : (m : ℕ) (xs : List X) (x : X) → Contains xs x → p x ≡ true → f x ≤ most_from m xs
  most_enough m xs x w here = enough_at x here xs w.0 m w.1 w.2

  -- it is that number, or one of them
  abbrev pub IsMost : List X → ℕ → Type 0
  IsMost xs most = (x : X) × Contains xs x × (p x ≡ true) × (f x ≡ most)

  later_most : (y : X) (ys : List X) (most : ℕ) → IsMost ys most → IsMost (y ∷ ys) most
  later_most y ys most w = (w.0, (suc w.1.0, (let l = w.1.1 in omega (arith, l)), w.1.2), w.2, w.3)

  reached : (m : ℕ) (y : X) (ys : List X) (b : Bool) → p y ≡ b → ((k : ℕ) → (most_from k ys ≡ k) ⊎ IsMost ys (most_from k ys))
      → (most_of m (cond b (y ∷ filter p ys) (filter p ys)) ≡ m) ⊎ IsMost (y ∷ ys) (most_of m (cond b (y ∷ filter p ys) (filter p ys)))
  reached m y ys true e needed = elim (needed (max m (f y))) [
    | inl h ↦ elim (cases_lt m (f y)) [
      | inl l ↦ inr (y, (0, omega arith, refl), e, let same : max m (f y) ≡ f y = omega (arith, l) in sym (h ∙ same))
      | inr l ↦ inl (let same : max m (f y) ≡ m = omega (arith, l) in h ∙ same)
    ]
    | inr w ↦ inr (later_most y ys (most_from (max m (f y)) ys) w)
  ]
  reached m y ys false e needed = elim (needed m) [ inl h ↦ inl h | inr w ↦ inr (later_most y ys (most_from m ys) w) ]

  pub most_needed : (m : ℕ) (xs : List X) → (most_from m xs ≡ m) ⊎ IsMost xs (most_from m xs)
  most_needed m [] = inl refl
  most_needed m (y ∷ ys) = reached m y ys (p y) refl (λ k. most_needed k ys)
