-- What is popped off a list was at its end.
use Rattle.std.proofs.Common.{◌≡◌, ℕ, zero, suc, ◌+◌, Option, List, [], ◌∷◌, ◌++◌, length, sym, ap, ◌∙◌, subst, refl, arith, length-append}
use Rattle.std.specs.Prelude.{Some, slice_get, option_to_list}
use Rattle.std.proofs.lemmas.Option.{none-some}

module _ {A : Type 0} where
  last_at : (xs : List A) (x : A) (n : ℕ) → length xs ≡ n → slice_get (xs ++ x ∷ []) n ≡ Some x
  last_at [] x zero e = refl
  last_at [] x (suc n) e = absurd (omega arith)
  last_at (y ∷ ys) x zero e = absurd (omega arith)
  last_at (y ∷ ys) x (suc n) e = last_at ys x n (omega arith)

  longer_at : (xs ys : List A) (x : A) (n : ℕ) → slice_get xs n ≡ Some x → slice_get (xs ++ ys) n ≡ Some x
  longer_at [] ys x n e = absurd (none-some x e)
  longer_at (z ∷ zs) ys x zero e = e
  longer_at (z ∷ zs) ys x (suc n) e = longer_at zs ys x n e

  whole : (list rest : List A) (o : Option A) (x : A) → list ≡ rest ++ option_to_list o → o ≡ Some x → list ≡ rest ++ x ∷ []
  whole list rest o x e is = e ∙ ap (λ p. rest ++ option_to_list p) is

  pub rest_count : (list rest : List A) (o : Option A) (x : A) (n : ℕ) → list ≡ rest ++ option_to_list o → o ≡ Some x → length list ≡ n + 1 → length rest ≡ n
  rest_count list rest o x n e is count = let l = ap (λ (k : List A). length k) (whole list rest o x e is) in omega (arith, length-append rest (x ∷ []))

  pub popped_at : (list rest : List A) (o : Option A) (x : A) (n : ℕ) → list ≡ rest ++ option_to_list o → o ≡ Some x → length list ≡ n + 1 → slice_get list n ≡ Some x
  popped_at list rest o x n e is count = subst (λ l. slice_get l n ≡ Some x) (sym (whole list rest o x e is)) (last_at rest x n (rest_count list rest o x n e is count))

  pub stood_at : (list rest : List A) (o : Option A) (x y : A) (n : ℕ) → list ≡ rest ++ option_to_list o → slice_get rest n ≡ Some y → slice_get list n ≡ Some y
  stood_at list rest o x y n e at = subst (λ l. slice_get l n ≡ Some y) (sym e) (longer_at rest (option_to_list o) y n at)
