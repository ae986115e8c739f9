-- Sums of samples of 16 bits.
use Rattle.std.proofs.Common.{◌≡◌, ℕ, ℤ, ◌+◌, ◌+ℤ◌, List, [], ◌∷◌, ◌++◌, All, take, drop, sym, ap, ◌∙◌, arith, take-add}
use Rattle.std.proofs.lemmas.Int.{ints}
use Rattle.std.proofs.lemmas.List.Elements.{All-cons, All-head, All-tail, All-nil}
use Rattle.pw_lists.specs.Samples.{summed}
use Rattle.s16_mixer.specs.Ranges.{IsWithin}

-- a sum of one sample more
one_within : (n : ℕ) (x y : ℤ) → IsWithin n x → IsWithin 1 y → IsWithin (n + 1) (x +ℤ y)
one_within n x y a b = (omega (arith, ints, a.0, b.0), omega (arith, ints, a.1, b.1))

pub within_more : (n : ℕ) (xs ys : List ℤ) → All (IsWithin n) xs → All (IsWithin 1) ys → All (IsWithin (n + 1)) (summed xs ys)
within_more n [] ys a b = All-nil (IsWithin (n + 1))
within_more n (x ∷ xs) [] a b = All-nil (IsWithin (n + 1))
within_more n (x ∷ xs) (y ∷ ys) a b = All-cons (IsWithin (n + 1)) (x +ℤ y) (summed xs ys)
    (one_within n x y (All-head (IsWithin n) x xs a) (All-head (IsWithin 1) y ys b))
    (within_more n xs ys (All-tail (IsWithin n) x xs a) (All-tail (IsWithin 1) y ys b))

-- the lanes so far, and one more
pub lane_joined : {X : Type 0} (xs : List X) (n w m : ℕ) → n + w ≡ m → take n xs ++ take w (drop n xs) ≡ take m xs
lane_joined xs n w m e = sym (take-add n w xs) ∙ ap (λ (k : ℕ). take k xs) e
