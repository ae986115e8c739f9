-- Lists of which the first are changed one after the other, each with an element of another list.
use Rattle.std.proofs.Common.{◌≡◌, suc, ◌<◌, ◌≤◌, List, [], ◌∷◌, ◌++◌, length, map, get_or, set, take, drop, refl, ap, arith}
use Rattle.std.specs.Prelude.{zip}

module _ {A B : Type 0} (f : A × B → A) where
  -- the first ones are changed
  abbrev pub partly : List A → List B → List A
  partly xs ys = map f (zip (take (length ys) xs) ys) ++ drop (length ys) xs

  -- the next one is as it was
  pub next_is : (xs : List A) (ys : List B) (d : A) → length ys < length xs
      → get_or (partly xs ys) (length ys) d ≡ get_or xs (length ys) d
  next_is [] ys d lt = absurd (omega arith)
  next_is (x ∷ xs) [] d lt = refl
  next_is (x ∷ xs) (y ∷ ys) d lt = next_is xs ys d (omega arith)

  pub length_partly : (xs : List A) (ys : List B) → length ys ≤ length xs → length (partly xs ys) ≡ length xs
  length_partly [] [] le = refl
  length_partly [] (y ∷ ys) le = absurd (omega arith)
  length_partly (x ∷ xs) [] le = refl
  length_partly (x ∷ xs) (y ∷ ys) le = ap suc (length_partly xs ys (omega arith))

  -- one more
  pub one_more : (xs : List A) (ys : List B) (y : B) (d : A) → length ys < length xs
      → set (partly xs ys) (length ys) (f (get_or xs (length ys) d, y)) ≡ partly xs (ys ++ y ∷ [])
  one_more [] ys y d lt = absurd (omega arith)
  one_more (x ∷ xs) [] y d lt = refl
  one_more (x ∷ xs) (z ∷ ys) y d lt = ap (λ l. f (x, z) ∷ l) (one_more xs ys y d (omega arith))
