-- Rows of samples as functions of the place: silence, sums, the end of a row, and rows one after another.
use Rattle.std.proofs.Common.{Bool, true, false, ◌≡◌, ℕ, zero, suc, ◌+◌, ◌-◌, ◌*◌, ◌<◌, ◌≤◌, List, [], ◌∷◌, ◌++◌, map}
use Rattle.std.proofs.Common.{length, take, drop, replicate, get_or, filter, fold, flat_map, ℤ, pos, ◌+ℤ◌, All, refl, ap, sym, ◌∙◌, arith}
use Rattle.std.proofs.Common.{⊎_elim, length-append, length-drop, length-take, get_or-take, get_or-drop}
use Rattle.std.specs.List.{range_with_len}
use Rattle.std.proofs.lemmas.List.{length-replicate, get_or_append_left, get_or-append_right, get_or-replicate, get_or_past}
use Rattle.std.proofs.lemmas.List.Elements.{All-head, All-tail}
use Rattle.std.proofs.lemmas.List.FromFn.{fill_by_all, length-map-range_with_len, get_or-map-range_with_len}
use Rattle.std.proofs.lemmas.Bool.{cases_lt}
use Rattle.pw_lists.specs.Samples.{silence, summed}

-- a wave, then silence
padded_at : (w : List ℤ) (n k : ℕ) → k < n → get_or (w ++ replicate n (pos 0)) k (pos 0) ≡ get_or w k (pos 0)
padded_at w n k h = ⊎_elim
    (λ (a : k < length w). get_or_append_left w (replicate n (pos 0)) (pos 0) k a)
    (λ (b : length w ≤ k). let lt : k - length w < n = omega arith in
    get_or-append_right w (replicate n (pos 0)) (length w) k (pos 0) refl b ∙ get_or-replicate n (k - length w) (pos 0) (pos 0) lt
    ∙ sym (get_or_past w k (pos 0) b))
    (cases_lt k (length w))

pub padded : (w : List ℤ) (n : ℕ) → take n (w ++ replicate n (pos 0)) ≡ map (λ j. get_or w j (pos 0)) (range_with_len 0 n)
padded w n = fill_by_all (λ j. get_or w j (pos 0)) (take n (w ++ replicate n (pos 0))) n (pos 0)
    (omega (arith, length-take n (w ++ replicate n (pos 0)), length-append w (replicate n (pos 0)), length-replicate n (pos 0)))
    (λ k h. get_or-take n (w ++ replicate n (pos 0)) k (pos 0) h ∙ padded_at w n k h)

-- the end of a row
pub end_of_row : (f : ℕ → ℤ) (m n : ℕ) → drop m (map f (range_with_len 0 (m + n))) ≡ map (λ r. f (m + r)) (range_with_len 0 n)
end_of_row f m n = fill_by_all (λ r. f (m + r)) (drop m (map f (range_with_len 0 (m + n)))) n (pos 0)
    (omega (arith, length-drop m (map f (range_with_len 0 (m + n))), length-map-range_with_len f 0 (m + n)))
    (λ k h. get_or-drop m (map f (range_with_len 0 (m + n))) k (pos 0)
    ∙ get_or-map-range_with_len f 0 (m + n) (m + k) (m + k) (pos 0) (omega arith) (omega arith))

pub silence_is : (a n : ℕ) → silence n ≡ map (λ j. pos 0) (range_with_len a n)
silence_is a zero = refl
silence_is a (suc n) = ap (λ t. pos 0 ∷ t) (silence_is (a + 1) n)

pub summed_rows : (f g : ℕ → ℤ) (ks : List ℕ) → summed (map f ks) (map g ks) ≡ map (λ j. f j +ℤ g j) ks
summed_rows f g [] = refl
summed_rows f g (k ∷ ks) = ap (λ t. (f k +ℤ g k) ∷ t) (summed_rows f g ks)

-- the sum of rows, each of which is a function of the place
pub fold_summed : {L : Type 0} (row : L → List ℤ) (at : L → ℕ → ℤ) (f : ℕ → ℤ) (ks : List ℕ) (ls : List L)
    → All (λ l. row l ≡ map (at l) ks) ls
    → fold summed (map f ks) (map row ls) ≡ map (λ j. fold (λ s l. s +ℤ at l j) (f j) ls) ks
fold_summed row at f ks [] h = refl
fold_summed row at f ks (l ∷ ls) h =
    let first : row l ≡ map (at l) ks = All-head (λ x. row x ≡ map (at x) ks) l ls h in
    let rest : All (λ x. row x ≡ map (at x) ks) ls = All-tail (λ x. row x ≡ map (at x) ks) l ls h in
    ap (λ t. fold summed t (map row ls)) (ap (λ t. summed (map f ks) t) first ∙ summed_rows f (at l) ks)
    ∙ fold_summed row at (λ j. f j +ℤ at l j) ks ls rest

pub map_map : {A B C : Type 0} (g : B → C) (f : A → B) (xs : List A) → map g (map f xs) ≡ map (λ x. g (f x)) xs
map_map g f [] = refl
map_map g f (x ∷ xs) = ap (λ t. g (f x) ∷ t) (map_map g f xs)

-- the same function at other places
shifted : (g : ℕ → ℤ) (b s n : ℕ) → map (λ r. g (b + r)) (range_with_len s n) ≡ map g (range_with_len (b + s) n)
shifted g b s zero = refl
shifted g b s (suc n) =
    let e : b + (s + 1) ≡ (b + s) + 1 = omega arith in
    ap (λ t. g (b + s) ∷ t) (shifted g b (s + 1) n ∙ ap (λ m. map g (range_with_len m n)) e)

joined : (g : ℕ → ℤ) (a n m : ℕ) → map g (range_with_len a n) ++ map g (range_with_len (a + n) m) ≡ map g (range_with_len a (n + m))
joined g a zero m =
    let e : a + 0 ≡ a = omega arith in
    let d : m ≡ 0 + m = omega arith in
    ap (λ k. map g (range_with_len k m)) e ∙ ap (λ k. map g (range_with_len a k)) d
joined g a (suc n) m =
    let e : suc (n + m) ≡ suc n + m = omega arith in
    let d : a + suc n ≡ (a + 1) + n = omega arith in
    ap (λ t. g a ∷ t) (ap (λ k. map g (range_with_len (a + 1) n) ++ map g (range_with_len k m)) d ∙ joined g (a + 1) n m)
    ∙ ap (λ k. map g (range_with_len a k)) e

-- rows of one length, one after another
pub rows_joined : (g : ℕ → ℤ) (q a n : ℕ) → flat_map (λ k. map (λ r. g (k * q + r)) (range_with_len 0 q)) (range_with_len a n)
    ≡ map g (range_with_len (a * q) (n * q))
rows_joined g q a zero = let e : 0 ≡ 0 * q = omega arith in ap (λ k. map g (range_with_len (a * q) k)) e
rows_joined g q a (suc n) =
    let e : a * q + 0 ≡ a * q = omega arith in
    let d : (a + 1) * q ≡ a * q + q = omega arith in
    let l : q + n * q ≡ suc n * q = omega arith in
    let first : map (λ r. g (a * q + r)) (range_with_len 0 q) ≡ map g (range_with_len (a * q) q) = shifted g (a * q) 0 q
    ∙ ap (λ k. map g (range_with_len k q)) e in
    let rest : flat_map (λ k. map (λ r. g (k * q + r)) (range_with_len 0 q)) (range_with_len (a + 1) n)
    ≡ map g (range_with_len (a * q + q) (n * q)) =
    rows_joined g q (a + 1) n ∙ ap (λ k. map g (range_with_len k (n * q))) d in
    ap (λ t. t ++ flat_map (λ k. map (λ r. g (k * q + r)) (range_with_len 0 q)) (range_with_len (a + 1) n)) first
    ∙ ap (λ t. map g (range_with_len (a * q) q) ++ t) rest
    ∙ joined g (a * q) q (n * q)
    ∙ ap (λ k. map g (range_with_len (a * q) k)) l

-- two functions that agree on a range
pub flat_map_agree : {X : Type 0} (f g : ℕ → List X) (a n : ℕ) → ((k : ℕ) → k < a + n → f k ≡ g k)
    → flat_map f (range_with_len a n) ≡ flat_map g (range_with_len a n)
flat_map_agree f g a zero h = refl
flat_map_agree f g a (suc n) h =
    ap (λ t. t ++ flat_map f (range_with_len (a + 1) n)) (h a (omega arith))
    ∙ ap (λ t. g a ++ t) (flat_map_agree f g (a + 1) n (λ k lt. h k (omega arith)))

-- a filter of a range that all of it passes, or none of it
pub filter_range_all : (p : ℕ → Bool) (a n : ℕ) → ((k : ℕ) → k < a + n → p k ≡ true) → filter p (range_with_len a n) ≡ range_with_len a n
filter_range_all p a zero h = refl
filter_range_all p a (suc n) h = rw (h a (omega arith)) (ap (λ t. a ∷ t) (filter_range_all p (a + 1) n (λ k lt. h k (omega arith))))

pub filter_range_none : (p : ℕ → Bool) (a n : ℕ) → ((k : ℕ) → k < a + n → p k ≡ false) → filter p (range_with_len a n) ≡ []
filter_range_none p a zero h = refl
filter_range_none p a (suc n) h = rw (h a (omega arith)) (filter_range_none p (a + 1) n (λ k lt. h k (omega arith)))
