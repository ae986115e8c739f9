-- Peaks: of rows one after the other, and of tops in several places.
use Rattle.std.proofs.Common.{◌≡◌, ℕ, ℤ, max, ◌∙◌, List, [], ◌∷◌, ◌++◌, length, map, fold, zip, refl, sym, ap, ap₂, arith}
use Rattle.std.specs.Prelude.{unsigned_abs}
use Rattle.pw_lists.specs.Samples.{peak_of}

pub fold_max : (a : ℕ) (xs : List ℕ) → fold max a xs ≡ max a (fold max 0 xs)
fold_max a [] = omega arith
fold_max a (x ∷ xs) =
    let one = fold_max (max a x) xs in
    let two = fold_max (max 0 x) xs in
    one ∙ assoc a x (fold max 0 xs) ∙ ap (max a) (sym two)
  where
    assoc : (a x m : ℕ) → max (max a x) m ≡ max a (max (max 0 x) m)
    assoc a x m = omega arith

pub peak_from : (a : ℕ) (xs : List ℤ) → fold (λ top s. max top (unsigned_abs s)) a xs ≡ max a (peak_of xs)
peak_from a [] = omega arith
peak_from a (x ∷ xs) =
    let one = peak_from (max a (unsigned_abs x)) xs in
    let two = peak_from (max 0 (unsigned_abs x)) xs in
    one ∙ assoc a (unsigned_abs x) (peak_of xs) ∙ ap (max a) (sym two)
  where
    assoc : (a x m : ℕ) → max (max a x) m ≡ max a (max (max 0 x) m)
    assoc a x m = omega arith

peak_first : (x : ℤ) (xs : List ℤ) → peak_of (x ∷ xs) ≡ max (unsigned_abs x) (peak_of xs)
peak_first x xs = peak_from (max 0 (unsigned_abs x)) xs ∙ zero_max (unsigned_abs x) (peak_of xs)
  where
    zero_max : (a m : ℕ) → max (max 0 a) m ≡ max a m
    zero_max a m = omega arith

fold_first : (x : ℕ) (xs : List ℕ) → fold max 0 (x ∷ xs) ≡ max x (fold max 0 xs)
fold_first x xs = fold_max (max 0 x) xs ∙ zero_max x (fold max 0 xs)
  where
    zero_max : (a m : ℕ) → max (max 0 a) m ≡ max a m
    zero_max a m = omega arith

pub peak_append : (xs ys : List ℤ) → peak_of (xs ++ ys) ≡ max (peak_of xs) (peak_of ys)
peak_append [] ys = omega arith
peak_append (x ∷ xs) ys =
    peak_first x (xs ++ ys) ∙ ap (max (unsigned_abs x)) (peak_append xs ys) ∙ assoc (unsigned_abs x) (peak_of xs) (peak_of ys)
    ∙ ap (λ m. max m (peak_of ys)) (sym (peak_first x xs))
  where
    assoc : (a x m : ℕ) → max a (max x m) ≡ max (max a x) m
    assoc a x m = omega arith

-- tops that are raised in their places
pub raised : (tops : List ℕ) (s : List ℤ) → length tops ≡ length s
    → fold max 0 (map (λ p. max p.0 (unsigned_abs p.1)) (zip tops s)) ≡ max (fold max 0 tops) (peak_of s)
raised [] [] h = refl
raised [] (x ∷ xs) h = absurd (omega (arith, h))
raised (t ∷ ts) [] h = absurd (omega (arith, h))
raised (t ∷ ts) (x ∷ xs) h =
    fold_first (max t (unsigned_abs x)) (map (λ (p : ℕ × ℤ). max p.0 (unsigned_abs p.1)) (zip ts xs))
    ∙ ap (max (max t (unsigned_abs x))) (raised ts xs (omega (arith, h)))
    ∙ both t (unsigned_abs x) (fold max 0 ts) (peak_of xs) ∙ ap₂ max (sym (fold_first t ts)) (sym (peak_first x xs))
  where
    both : (a b m n : ℕ) → max (max a b) (max m n) ≡ max (max a m) (max b n)
    both a b m n = omega arith
