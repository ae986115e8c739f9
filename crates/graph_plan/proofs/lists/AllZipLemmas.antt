-- Lists side by side.
use Rattle.std.proofs.Common.{◌≡◌, ℕ, zero, suc, ◌+◌, ◌<◌, ◌≤◌, List, [], ◌∷◌, ◌++◌, length, drop, get_or, refl, ap, subst, arith}
use Rattle.std.specs.Prelude.{All, zip}
use Rattle.std.specs.List.{AllZip}
use Rattle.std.proofs.lemmas.List.{drop_more}
use Rattle.std.proofs.lemmas.List.Elements.{All-nil, All-cons, All-head, All-tail}

module _ {A B : Type 0} (R : A → B → Type 0) where
  pub pairs_long : (xs : List A) (ys : List B) → AllZip R xs ys → length ys ≡ length xs
  pairs_long [] [] t = refl
  pairs_long [] (y ∷ ys) t = absurd t
  pairs_long (x ∷ xs) [] t = absurd t
  pairs_long (x ∷ xs) (y ∷ ys) t = ap suc (pairs_long xs ys t.1)

  -- one more pair
  pub pairs_push : (xs : List A) (ys : List B) (x : A) (y : B) → AllZip R xs ys → R x y → AllZip R (xs ++ x ∷ []) (ys ++ y ∷ [])
  pairs_push [] [] x y t r = (r, tt)
  pairs_push [] (b ∷ ys) x y t r = absurd t
  pairs_push (a ∷ xs) [] x y t r = absurd t
  pairs_push (a ∷ xs) (b ∷ ys) x y t r = (t.0, pairs_push xs ys x y t.1 r)

  -- the first pair of those that are left
  pub next_low : (xs : List A) (k : ℕ) (y : B) (ys : List B) → AllZip R (drop k xs) (y ∷ ys) → k < length xs
  next_low [] zero y ys t = absurd t
  next_low [] (suc k) y ys t = absurd t
  next_low (x ∷ xs) zero y ys t = omega arith
  next_low (x ∷ xs) (suc k) y ys t = let l = next_low xs k y ys t in omega (arith, l)

  pub next_pair : (xs : List A) (k : ℕ) (d : A) (y : B) (ys : List B) → AllZip R (drop k xs) (y ∷ ys)
      → R (get_or xs k d) y × AllZip R (drop (k + 1) xs) ys
  next_pair xs k d y ys t = subst (λ (l : List A). AllZip R l (y ∷ ys)) (drop_more xs k d (next_low xs k y ys t)) t

  pub none_left : (xs : List A) (k : ℕ) → AllZip R (drop k xs) [] → length xs ≤ k
  none_left [] zero t = omega arith
  none_left [] (suc k) t = omega arith
  none_left (x ∷ xs) zero t = absurd t
  none_left (x ∷ xs) (suc k) t = let l = none_left xs k t in omega (arith, l)

  pub pairs_weaker : (Q : A → B → Type 0) → ((x : A) (y : B) → R x y → Q x y) → (xs : List A) (ys : List B) → AllZip R xs ys → AllZip Q xs ys
  pairs_weaker Q f [] [] t = tt
  pairs_weaker Q f [] (y ∷ ys) t = absurd t
  pairs_weaker Q f (x ∷ xs) [] t = absurd t
  pairs_weaker Q f (x ∷ xs) (y ∷ ys) t = (f x y t.0, pairs_weaker Q f xs ys t.1)

  pub pairs_all : (P : B → Type 0) → ((x : A) (y : B) → R x y → P y) → (xs : List A) (ys : List B) → AllZip R xs ys → All P ys
  pairs_all P f [] [] t = All-nil P
  pairs_all P f [] (y ∷ ys) t = absurd t
  pairs_all P f (x ∷ xs) [] t = absurd t
  pairs_all P f (x ∷ xs) (y ∷ ys) t = All-cons P y ys (f x y t.0) (pairs_all P f xs ys t.1)

  -- what holds of the first of each pair goes over to the second
  pub pairs_over : (P : A → Type 0) (Q : B → Type 0) → ((x : A) (y : B) → R x y → P x → Q y) → (xs : List A) (ys : List B)
      → All P xs → AllZip R xs ys → All Q ys
  pairs_over P Q f [] [] a t = All-nil Q
  pairs_over P Q f [] (y ∷ ys) a t = absurd t
  pairs_over P Q f (x ∷ xs) [] a t = absurd t
  pairs_over P Q f (x ∷ xs) (y ∷ ys) a t = All-cons Q y ys (f x y t.0 (All-head P x xs a)) (pairs_over P Q f xs ys (All-tail P x xs a) t.1)

pub zip_more : {A B : Type 0} (xs : List A) (ys : List B) (x : A) (y : B) → length ys ≡ length xs
    → zip (xs ++ x ∷ []) (ys ++ y ∷ []) ≡ zip xs ys ++ (x, y) ∷ []
zip_more [] [] x y e = refl
zip_more [] (b ∷ ys) x y e = absurd (omega (arith, e))
zip_more (a ∷ xs) [] x y e = absurd (omega (arith, e))
zip_more {A} {B} (a ∷ xs) (b ∷ ys) x y e = ap (λ (l : List (A × B)). (a, b) ∷ l) (zip_more xs ys x y (omega (arith, e)))
