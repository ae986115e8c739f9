-- Where the first element is that passes a test, how many pass, and what is in a front of a list.
use Rattle.std.proofs.Common.{◌≡◌, ℕ, zero, suc, ◌+◌, ◌<◌, ◌≤◌, ◌⊎◌, inl, inr, Bool, true, false, cond, List, [], ◌∷◌}
use Rattle.std.proofs.Common.{length, get_or, take, refl, sym, ap, ◌∙◌, subst, arith}
use Rattle.std.specs.Prelude.{count_by, All, Contains}
use Rattle.std.specs.List.{position_or_len, list_any}
use Rattle.std.proofs.lemmas.Bool.{true≢false, cases_lt, cases_Bool, false_from_ne_true}
use Rattle.std.proofs.lemmas.List.{get_or-take, length-take, length-take-le}
use Rattle.std.proofs.lemmas.List.Elements.{All-head, All-tail, Contains-get_or}
use Rattle.std.proofs.lemmas.List.Folds.{Any-from_list_any, list_any_at}
use Rattle.std.proofs.lemmas.List.Sums.{sum_by-cons, fails_before_first, passes_at_first}

module _ {X : Type 0} where
  -- an element before a place is in the front up to it
  pub in_front : (xs : List X) (j k : ℕ) (d : X) → j < k → k ≤ length xs → Contains (take k xs) (get_or xs j d)
  in_front xs j k d lt le = let l : length (take k xs) ≡ k = length-take-le k xs le in
      subst (Contains (take k xs)) (get_or-take k xs j d lt) (Contains-get_or (take k xs) j d (omega arith))

  -- and what is in it is before the place
  pub from_front : (xs : List X) (k : ℕ) (x : X) → Contains (take k xs) x → (j : ℕ) × (j < k) × (j < length xs) × (get_or xs j x ≡ x)
  from_front xs k x c =
      let lt : c.0 < length (take k xs) = c.1 in
      let short : c.0 < k = omega (arith, length-take k xs) in
      (c.0, short, omega (arith, length-take k xs), sym (get_or-take k xs c.0 x short) ∙ c.2)

  -- what is in a front is in the list
  pub front_within : (xs : List X) (k : ℕ) (x : X) → Contains (take k xs) x → Contains xs x
  front_within xs k x c = let f = from_front xs k x c in (f.0, f.2, f.3)

module _ {X : Type 0} (f : X → Bool) where
  -- no element that passes is before a place: the first is not before it
  pub first_from : (xs : List X) (k : ℕ) (d : X) → k ≤ length xs → ((x : X) → f x ≡ true → ¬ Contains (take k xs) x)
      → k ≤ position_or_len f xs
  first_from xs k d le none = elim (cases_lt (position_or_len f xs) k) [
    | inl lt ↦ absurd (none (get_or xs (position_or_len f xs) d) (passes_at_first f xs d (omega arith))
        (in_front xs (position_or_len f xs) k d lt le))
    | inr ge ↦ ge
  ]

  -- one that passes is before a place: the first does
  pub first_below : (xs : List X) (k : ℕ) (x : X) → f x ≡ true → Contains (take k xs) x → position_or_len f xs < k
  first_below xs k x t c = elim (cases_lt (position_or_len f xs) k) [
    | inl lt ↦ lt
    | inr ge ↦ (let j = from_front xs k x c in let short : j.0 < k = j.1 in
        absurd (true≢false (sym t ∙ sym (ap f j.3) ∙ fails_before_first f xs j.0 x (omega arith))))
  ]

  -- so the first within the list
  pub first_in : (xs : List X) (x : X) → f x ≡ true → Contains xs x → position_or_len f xs < length xs
  first_in xs x t c = elim (cases_lt (position_or_len f xs) (length xs)) [
    | inl lt ↦ lt
    | inr ge ↦ (let short : c.0 < length xs = c.1 in
        absurd (true≢false (sym t ∙ sym (ap f c.2) ∙ fails_before_first f xs c.0 x (omega arith))))
  ]

  pub some_pass : (xs : List X) (k : ℕ) (d : X) → k < length xs → f (get_or xs k d) ≡ true → 0 < count_by f xs
  some_pass [] k d lt t = absurd (omega arith)
  some_pass (x ∷ xs) zero d lt t = let a = sum_by-cons (λ x. cond {A = ℕ} (f x) 1 0) x xs in
      let b : cond {A = ℕ} (f x) 1 0 ≡ 1 = ap (λ b. cond {A = ℕ} b 1 0) t in omega arith
  some_pass (x ∷ xs) (suc k) d lt t = let a = some_pass xs k d (omega arith) t in
      let b = sum_by-cons (λ x. cond {A = ℕ} (f x) 1 0) x xs in omega arith

  none_pass : (xs : List X) → All (λ x. f x ≡ false) xs → count_by f xs ≡ 0
  none_pass [] h = refl
  none_pass (x ∷ xs) h = let a = none_pass xs (All-tail (λ x. f x ≡ false) x xs h) in
      let b = sum_by-cons (λ x. cond {A = ℕ} (f x) 1 0) x xs in
      let c : cond {A = ℕ} (f x) 1 0 ≡ 0 = ap (λ b. cond {A = ℕ} b 1 0) (All-head (λ x. f x ≡ false) x xs h) in omega arith

  pub first_within : (xs : List X) → 0 < count_by f xs → position_or_len f xs < length xs
  first_within xs some = elim (cases_lt (position_or_len f xs) (length xs)) [
    | inl lt ↦ lt
    | inr ge ↦ (let none : count_by f xs ≡ 0 = none_pass xs (λ k d lt. fails_before_first f xs k d (omega arith)) in absurd (omega arith))
  ]

  -- where at most one passes, it is the first
  pub place_is : (xs : List X) (k : ℕ) (d : X) → count_by f xs ≤ 1 → k < length xs → f (get_or xs k d) ≡ true
      → position_or_len f xs ≡ k
  place_is [] k d one lt t = absurd (omega arith)
  place_is (x ∷ xs) zero d one lt t = rw t refl
  place_is (x ∷ xs) (suc k) d one lt t =
      let more : 0 < count_by f xs = some_pass xs k d (omega arith) t in
      let sum : count_by f (x ∷ xs) ≡ cond {A = ℕ} (f x) 1 0 + count_by f xs = sum_by-cons (λ x. cond {A = ℕ} (f x) 1 0) x xs in
      let no : f x ≡ false = false_from_ne_true (f x)
      (λ y. let c : cond {A = ℕ} (f x) 1 0 ≡ 1 = ap (λ b. cond {A = ℕ} b 1 0) y in omega arith) in
      let rest : position_or_len f xs ≡ k = place_is xs k d (omega arith) (omega arith) t in
      rw no (omega arith)

  count_by_head : (b : Bool) (x : X) (xs : List X) → f x ≡ b
      → ((k : ℕ) (d : X) → k < length (x ∷ xs) → f (get_or (x ∷ xs) k d) ≡ true → k ≤ position_or_len f (x ∷ xs))
      → (((k : ℕ) (d : X) → k < length xs → f (get_or xs k d) ≡ true → k ≤ position_or_len f xs) → count_by f xs ≤ 1)
      → count_by f (x ∷ xs) ≤ 1
  count_by_head true x xs e h rest =
      let at : position_or_len f (x ∷ xs) ≡ 0 = rw e refl in
      let none : count_by f xs ≡ 0 = none_pass xs (λ k d lt. false_from_ne_true (f (get_or xs k d))
      (λ t. let z = h (suc k) d (omega arith) t in omega arith)) in
      let c : cond {A = ℕ} (f x) 1 0 ≡ 1 = ap (λ b. cond {A = ℕ} b 1 0) e in
      let sum = sum_by-cons (λ x. cond {A = ℕ} (f x) 1 0) x xs in omega arith
  count_by_head false x xs e h rest =
      let at : position_or_len f (x ∷ xs) ≡ 1 + position_or_len f xs = rw e refl in
      let few : count_by f xs ≤ 1 = rest (λ k d lt t. let z = h (suc k) d (omega arith) t in omega arith) in
      let c : cond {A = ℕ} (f x) 1 0 ≡ 0 = ap (λ b. cond {A = ℕ} b 1 0) e in
      let sum = sum_by-cons (λ x. cond {A = ℕ} (f x) 1 0) x xs in omega arith

  -- where each that passes is not after the first, at most one does
  pub count_one : (xs : List X) → ((k : ℕ) (d : X) → k < length xs → f (get_or xs k d) ≡ true → k ≤ position_or_len f xs)
      → count_by f xs ≤ 1
  count_one [] h = omega arith
  count_one (x ∷ xs) h = count_by_head (f x) x xs refl h (count_one xs)

  -- a test for one value decides whether it is there
  pub is_there : (y : X) → f y ≡ true → ((x : X) → f x ≡ true → x ≡ y) → (xs : List X) → Contains xs y ⊎ (¬ Contains xs y)
  is_there y here only xs = elim (cases_Bool (list_any f xs)) [
    | inl t ↦ (let a = Any-from_list_any f xs t in inl (subst (Contains xs) (only a.1 a.4) (a.0, a.2, a.3)))
    | inr n ↦ inr (λ c. true≢false (sym (list_any_at f xs c.0 y c.1 (ap f c.2 ∙ here)) ∙ n))
  ]
