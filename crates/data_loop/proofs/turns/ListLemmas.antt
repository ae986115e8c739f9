-- The first elements of a list, one after the other.
use Rattle.std.proofs.Common.{◌≡◌, ◌≢◌, ℕ, ◌+◌, ◌<◌, List, [], ◌∷◌, ◌++◌, length, get_or, take, ◌⊎◌, sym, ◌∙◌}
use Rattle.std.proofs.Common.{subst, arith}
use Rattle.std.specs.Prelude.{AllPairs, Contains}
use Rattle.std.proofs.lemmas.List.{take_more, get_or_default, length-take, length-take-le, get_or-take}
use Rattle.std.proofs.lemmas.List.Elements.{Contains-push, Contains-push_cases, Contains-append_left}

module _ (xs : List ℕ) (k : ℕ) where
  taken_more : (ys : List ℕ) (i : ℕ) → i < length ys → take (i + 1) ys ≡ take i ys ++ get_or ys i 0 ∷ []
  taken_more ys i h = take_more ys i 0 h

  -- one of the first elements is an element
  pub taken : (x : ℕ) → Contains (take k xs) x → Contains xs x
  taken x c = let at = c.0 in let in_range = c.1 in let long = length-take k xs in
      (at, omega arith, sym (get_or-take k xs at x (omega arith)) ∙ c.2)

  pub take_cases : (x : ℕ) → k < length xs → Contains (take (k + 1) xs) x → Contains (take k xs) x ⊎ (get_or xs k 0 ≡ x)
  take_cases x h c = Contains-push_cases (take k xs) (get_or xs k 0) x (subst (λ ys. Contains ys x) (taken_more xs k h) c)

  pub last_taken : k < length xs → Contains (take (k + 1) xs) (get_or xs k 0)
  last_taken h = subst (λ ys. Contains ys (get_or xs k 0)) (sym (taken_more xs k h)) (Contains-push (take k xs) (get_or xs k 0))

  pub still_taken : (x : ℕ) → k < length xs → Contains (take k xs) x → Contains (take (k + 1) xs) x
  still_taken x h c = subst (λ ys. Contains ys x) (sym (taken_more xs k h)) (Contains-append_left (take k xs) (get_or xs k 0 ∷ []) x c)

  -- where no element is there twice, an early one is another than the next
  pub early_differs : AllPairs (λ x y. x ≢ y) xs → k < length xs → Contains (take k xs) (get_or xs k 0) → ⊥
  early_differs differ h c = let at = c.0 in let in_range = c.1 in let long = length-take-le k xs (omega arith) in
      let low : at < k = omega arith in
      differ at k 0 low h (sym (get_or-take k xs at 0 low) ∙ get_or_default (take k xs) at 0 (get_or xs k 0) in_range ∙ c.2)
