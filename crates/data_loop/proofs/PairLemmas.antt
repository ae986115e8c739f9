-- The elements of a list with their indexes, those that pass a test.
use Rattle.std.proofs.Common.{◌≡◌, ℕ, zero, suc, ◌+◌, ◌<◌, Bool, true, false, cond, refl, ◌∙◌, sym, ap, subst, arith, ⊎_elim}
use Rattle.std.proofs.Common.{append-nil, List, [], ◌∷◌, ◌++◌, map, length, get_or, take}
use Rattle.std.specs.Prelude.{filter, Contains}
use Rattle.std.specs.List.{enumerate_from}
use Rattle.std.proofs.lemmas.Bool.{cases_Bool}

module _ {X Y : Type 0} (test : ℕ × X → Bool) (f : ℕ × X → Y) where
  -- what those give, counted from n
  abbrev pub picked : ℕ → List X → List Y
  picked n xs = map f (filter test (enumerate_from n xs))

  one : (b : Bool) (e : ℕ × X) → map f (cond b (e ∷ []) []) ≡ cond b (f e ∷ []) []
  one true e = refl
  one false e = refl

  later : (b : Bool) (e : ℕ × X) (xs ys : List (ℕ × X)) (zs : List Y) → map f xs ≡ map f ys ++ zs
      → map f (cond b (e ∷ xs) xs) ≡ map f (cond b (e ∷ ys) ys) ++ zs
  later true e xs ys zs h = ap (λ l. f e ∷ l) h
  later false e xs ys zs h = h

  picked_suc : (n : ℕ) (xs : List X) (i : ℕ) (d : X) → i < length xs
      → picked n (take (suc i) xs) ≡ picked n (take i xs) ++ cond (test (n + i, get_or xs i d)) (f (n + i, get_or xs i d) ∷ []) []
  picked_suc n [] i d low = absurd (omega (arith, low))
  picked_suc n (x ∷ xs) zero d low = let z : n ≡ n + 0 = omega arith in
      one (test (n, x)) (n, x) ∙ ap (λ k. cond (test (k, x)) (f (k, x) ∷ []) []) z
  picked_suc n (x ∷ xs) (suc i) d low = let e : (n + 1) + i ≡ n + suc i = omega arith in
      later (test (n, x)) (n, x) _ _ _
      (picked_suc (n + 1) xs i d (omega (arith, low))
      ∙ ap (λ k. picked (n + 1) (take i xs) ++ cond (test (k, get_or xs i d)) (f (k, get_or xs i d) ∷ []) []) e)

  -- one element more
  pub picked_more : (xs : List X) (i : ℕ) (d : X) → i < length xs
      → picked 0 (take (i + 1) xs) ≡ picked 0 (take i xs) ++ cond (test (i, get_or xs i d)) (f (i, get_or xs i d) ∷ []) []
  picked_more xs i d low = let s : i + 1 ≡ suc i = omega arith in let z : 0 + i ≡ i = omega arith in
      ap (λ k. picked 0 (take k xs)) s ∙ picked_suc 0 xs i d low
      ∙ ap (λ k. picked 0 (take i xs) ++ cond (test (k, get_or xs i d)) (f (k, get_or xs i d) ∷ []) []) z

  pub picked_yes : (xs : List X) (i : ℕ) (d : X) → i < length xs → test (i, get_or xs i d) ≡ true
      → picked 0 (take (i + 1) xs) ≡ picked 0 (take i xs) ++ f (i, get_or xs i d) ∷ []
  picked_yes xs i d low pass = picked_more xs i d low
      ∙ ap (λ b. picked 0 (take i xs) ++ cond b (f (i, get_or xs i d) ∷ []) []) pass

  pub picked_no : (xs : List X) (i : ℕ) (d : X) → i < length xs → test (i, get_or xs i d) ≡ false
      → picked 0 (take (i + 1) xs) ≡ picked 0 (take i xs)
  picked_no xs i d low miss = picked_more xs i d low
      ∙ ap (λ b. picked 0 (take i xs) ++ cond b (f (i, get_or xs i d) ∷ []) []) miss ∙ append-nil _

  -- where a picked one is from
  abbrev pub IsPick : ℕ → List X → Y → Type 0
  IsPick n xs y = (i : ℕ) × (i < length xs) × ((d : X) → (test (n + i, get_or xs i d) ≡ true) × (f (n + i, get_or xs i d) ≡ y))

  pub pick_of : (n : ℕ) (xs : List X) (y : Y) → Contains (picked n xs) y → IsPick n xs y
  pick_of n [] y c = let low = c.1 in absurd (omega (arith, low))
  pick_of n (x ∷ xs) y c = ⊎_elim
      (λ (t : test (n, x) ≡ true). by (subst (λ b. Contains (map f (cond b ((n, x) ∷ filter test (enumerate_from (n + 1) xs))
      (filter test (enumerate_from (n + 1) xs)))) y) t c) t (λ r. pick_of (n + 1) xs y r))
      (λ (t : test (n, x) ≡ false). past (pick_of (n + 1) xs y
      (subst (λ b. Contains (map f (cond b ((n, x) ∷ filter test (enumerate_from (n + 1) xs)) (filter test (enumerate_from (n + 1) xs)))) y) t c)))
      (cases_Bool (test (n, x)))
    where
      past : IsPick (n + 1) xs y → IsPick n (x ∷ xs) y
      past h = let low = h.1 in let e : (n + 1) + h.0 ≡ n + suc h.0 = omega arith in (
        suc h.0,
        omega (arith, low),
        λ d. (
          ap (λ k. test (k, get_or xs h.0 d)) (sym e) ∙ (h.2 d).0,
          ap (λ k. f (k, get_or xs h.0 d)) (sym e) ∙ (h.2 d).1,
        ),
      )

      by : Contains (f (n, x) ∷ picked (n + 1) xs) y → test (n, x) ≡ true → (Contains (picked (n + 1) xs) y → IsPick (n + 1) xs y)
          → IsPick n (x ∷ xs) y
      by (zero, low, is) t more = let z : n + 0 ≡ n = omega arith in
          (0, omega arith, λ d. (ap (λ k. test (k, x)) z ∙ t, ap (λ k. f (k, x)) z ∙ is))
      by (suc k, low, is) t more = past (more (k, omega (arith, low), is))

  -- each that passes is picked
  pub picks : (n : ℕ) (xs : List X) (i : ℕ) (d : X) → i < length xs → test (n + i, get_or xs i d) ≡ true
      → Contains (picked n xs) (f (n + i, get_or xs i d))
  picks n [] i d low pass = absurd (omega (arith, low))
  picks n (x ∷ xs) zero d low pass = let z : n + 0 ≡ n = omega arith in
      subst (λ b. Contains (map f (cond b ((n, x) ∷ filter test (enumerate_from (n + 1) xs)) (filter test (enumerate_from (n + 1) xs))))
      (f (n + 0, x))) (sym (ap (λ k. test (k, x)) (sym z) ∙ pass)) (0, omega arith, ap (λ k. f (k, x)) (sym z))
  picks n (x ∷ xs) (suc i) d low pass = let e : (n + 1) + i ≡ n + suc i = omega arith in
      let rest = picks (n + 1) xs i d (omega (arith, low)) (ap (λ k. test (k, get_or xs i d)) e ∙ pass) in
      let here : Contains (picked (n + 1) xs) (f (n + suc i, get_or xs i d)) =
      subst (λ k. Contains (picked (n + 1) xs) (f (k, get_or xs i d))) e rest in
      ⊎_elim
      (λ (t : test (n, x) ≡ true). let high = here.1 in
      subst (λ b. Contains (map f (cond b ((n, x) ∷ filter test (enumerate_from (n + 1) xs)) (filter test (enumerate_from (n + 1) xs))))
      (f (n + suc i, get_or xs i d))) (sym t) (suc here.0, omega (arith, high), here.2))
      (λ (s : test (n, x) ≡ false).
      subst (λ b. Contains (map f (cond b ((n, x) ∷ filter test (enumerate_from (n + 1) xs)) (filter test (enumerate_from (n + 1) xs))))
      (f (n + suc i, get_or xs i d))) (sym s) here)
      (cases_Bool (test (n, x)))
