-- Rows that are written over from the front.
use Rattle.std.proofs.Common.{◌≡◌, ℕ, suc, zero, ◌+◌, ◌<◌, ◌≤◌, List, [], ◌∷◌, ◌++◌, length, get_or, set, take, drop, map, refl}
use Rattle.std.proofs.Common.{ap, arith}
use Rattle.std.specs.List.{zip, range_with_len}

-- one more of a map
pub map_over : {A B : Type 0} (f : A → B) (xs : List A) (ys : List B) (i : ℕ) (d : A) → i < length xs → length xs ≤ length ys
    → set (map f (take i xs) ++ drop i ys) i (f (get_or xs i d)) ≡ map f (take (suc i) xs) ++ drop (suc i) ys
map_over f [] ys i d h k = absurd (omega arith)
map_over f (x ∷ xs) [] i d h k = absurd (omega arith)
map_over f (x ∷ xs) (y ∷ ys) zero d h k = refl
map_over f (x ∷ xs) (y ∷ ys) (suc i) d h k = ap (λ t. f x ∷ t) (map_over f xs ys i d (omega arith) (omega arith))

-- one more of a map of two rows
pub zip_over : {A B C : Type 0} (f : A × B → C) (ps : List A) (qs : List B) (ys : List C) (i : ℕ) (d : A) (e : B)
    → i < length ps → length ps ≡ length qs → length ys ≡ length ps
    → set (map f (zip (take i ps) (take i qs)) ++ drop i ys) i (f (get_or ps i d, get_or qs i e))
    ≡ map f (zip (take (suc i) ps) (take (suc i) qs)) ++ drop (suc i) ys
zip_over f [] qs ys i d e h k l = absurd (omega arith)
zip_over f (a ∷ ps) [] ys i d e h k l = absurd (omega arith)
zip_over f (a ∷ ps) (b ∷ qs) [] i d e h k l = absurd (omega arith)
zip_over f (a ∷ ps) (b ∷ qs) (y ∷ ys) zero d e h k l = refl
zip_over f (a ∷ ps) (b ∷ qs) (y ∷ ys) (suc i) d e h k l =
    ap (λ t. f (a, b) ∷ t) (zip_over f ps qs ys i d e (omega arith) (omega arith) (omega arith))

-- what is not written over yet is ps it was
pub zip_past : {A B C : Type 0} (f : A × B → C) (ps : List A) (qs : List B) (ys : List C) (i : ℕ) (d : C)
    → i < length ps → length ps ≡ length qs → length ys ≡ length ps
    → get_or (map f (zip (take i ps) (take i qs)) ++ drop i ys) i d ≡ get_or ys i d
zip_past f [] qs ys i d h k l = absurd (omega arith)
zip_past f (a ∷ ps) [] ys i d h k l = absurd (omega arith)
zip_past f (a ∷ ps) (b ∷ qs) [] i d h k l = absurd (omega arith)
zip_past f (a ∷ ps) (b ∷ qs) (y ∷ ys) zero d h k l = refl
zip_past f (a ∷ ps) (b ∷ qs) (y ∷ ys) (suc i) d h k l = zip_past f ps qs ys i d (omega arith) (omega arith) (omega arith)

-- one more of a function of the places
pub range_over : {B : Type 0} (f : ℕ → B) (a : ℕ) (ys : List B) (i j : ℕ) → i < length ys → j ≡ a + i
    → set (map f (range_with_len a i) ++ drop i ys) i (f j) ≡ map f (range_with_len a (suc i)) ++ drop (suc i) ys
range_over f a [] i j h e = absurd (omega arith)
range_over f a (y ∷ ys) zero j h e = let same : j ≡ a = omega arith in ap (λ k. f k ∷ ys) same
range_over f a (y ∷ ys) (suc i) j h e = ap (λ t. f a ∷ t) (range_over f (a + 1) ys i j (omega arith) (omega arith))

-- one more of a map that is written in the middle of a row, from n on
pub piece_over : {A B : Type 0} (f : A → B) (xs : List A) (ys : List B) (n j m : ℕ) (d : A) → j < length xs → n + length xs ≤ length ys
    → m ≡ n + j
    → set (take n ys ++ map f (take j xs) ++ drop m ys) m (f (get_or xs j d)) ≡ take n ys ++ map f (take (suc j) xs) ++ drop (suc m) ys
piece_over f xs ys zero j m d h k e = let same : m ≡ j = omega arith in rw same (map_over f xs ys j d h (omega arith))
piece_over f xs [] (suc n) j m d h k e = absurd (omega arith)
piece_over f xs (y ∷ ys) (suc n) j zero d h k e = absurd (omega arith)
piece_over f xs (y ∷ ys) (suc n) j (suc m) d h k e = ap (λ t. y ∷ t) (piece_over f xs ys n j m d h (omega arith) (omega arith))

-- two places that are written one after the other
pub pair_over : {B : Type 0} (x y : B) (ts : List B) (n m : ℕ) → n + 2 ≤ length ts → m ≡ suc n
    → set (set ts n x) m y ≡ take n ts ++ x ∷ y ∷ [] ++ drop (suc m) ts
pair_over x y [] n m h e = absurd (omega arith)
pair_over x y (t ∷ ts) n zero h e = absurd (omega arith)
pair_over x y (t ∷ []) zero (suc m) h e = absurd (omega arith)
pair_over x y (t ∷ u ∷ ts) zero (suc zero) h e = refl
pair_over x y (t ∷ u ∷ ts) zero (suc (suc m)) h e = absurd (omega arith)
pair_over x y (t ∷ ts) (suc n) (suc m) h e = ap (λ r. t ∷ r) (pair_over x y ts n m (omega arith) (omega arith))
