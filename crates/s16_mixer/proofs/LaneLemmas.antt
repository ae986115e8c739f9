-- Rows that are written over from the front, a lane at a time.
use Rattle.std.proofs.Common.{◌≡◌, ℕ, suc, zero, ◌+◌, ◌*◌, ◌<◌, ◌≤◌, ◌∙◌, List, [], ◌∷◌, ◌++◌, length, get_or, take}
use Rattle.std.proofs.Common.{drop, map, refl, sym, ap, ap₂, arith, take-add, drop-drop, append_assoc, append-nil, drop_of_length-le}
use Rattle.std.proofs.Common.{take-append-drop}
use Rattle.std.proofs.Common.{◌/◌}
use Rattle.std.specs.List.{zip}
use Rattle.std.specs.Simd.{first_chunks}
use Rattle.std.proofs.lemmas.List.{map-append}
use Rattle.std.proofs.lemmas.Slice.{drop-append-drop}
use Rattle.std.proofs.Math.Seq.{take-append_seam}
use Rattle.std.proofs.lemmas.Grind.{common_steps}
use borrow.Rule.Slice.PartMut.{put_mid}

-- a lane by its number
pub lane_at : {X : Type 0} (n c : ℕ) (xs : List X) (k : ℕ) (d : List X) → k < c
    → get_or (first_chunks n c xs) k d ≡ take n (drop (k * n) xs)
lane_at n zero xs k d h = absurd (omega (arith, h))
lane_at n (suc c) xs zero d h = grind (arith, common_steps)
lane_at n (suc c) xs (suc k) d h =
    let place : n + k * n ≡ suc k * n = omega arith in
    lane_at n c (drop n xs) k d (omega (arith, h)) ∙ ap (take n) (drop-drop (k * n) n xs ∙ ap (λ (m : ℕ). drop m xs) place)

-- a piece that is written over after n others
pub piece_written : {X : Type 0} (done ys piece : List X) (n w : ℕ) → length done ≡ n
    → put_mid n w (done ++ drop n ys) piece ≡ (done ++ piece) ++ drop (n + w) ys
piece_written done ys piece n w h =
    let front : take n (done ++ drop n ys) ≡ done = ap (λ (m : ℕ). take m (done ++ drop n ys)) (sym h)
    ∙ take-append_seam done (drop n ys) in
    let back : drop w (drop n (done ++ drop n ys)) ≡ drop (n + w) ys = grind (arith, common_steps, h) in
    ap₂ (λ a b. a ++ (piece ++ b)) front back ∙ sym (append_assoc done piece (drop (n + w) ys))

-- one lane more of a map
pub lane_over : {A B : Type 0} (f : A → B) (xs : List A) (ys : List B) (n w : ℕ) → n ≤ length xs
    → put_mid n w (map f (take n xs) ++ drop n ys) (map f (take w (drop n xs))) ≡ map f (take (n + w) xs) ++ drop (n + w) ys
lane_over f xs ys n w h =
    let long : length (map f (take n xs)) ≡ n = grind (arith, common_steps, h) in
    let joined : map f (take n xs) ++ map f (take w (drop n xs)) ≡ map f (take (n + w) xs) =
    sym (map-append f (take n xs) (take w (drop n xs))) ∙ ap (map f) (sym (take-add n w xs)) in
    piece_written (map f (take n xs)) ys (map f (take w (drop n xs))) n w long ∙ ap (λ t. t ++ drop (n + w) ys) joined

-- the lane that a turn reads
pub lane_read : {X : Type 0} (n : ℕ) (xs : List X) (lanes : List (List X)) (k : ℕ) (lane : List X)
    → lanes ≡ first_chunks n (length xs / n) xs → length lanes ≡ length xs / n → k < length lanes
    → lane ≡ get_or lanes k [] → lane ≡ take n (drop (k * n) xs)
lane_read {X = X} n xs lanes k lane e l h r = r ∙ ap (λ (cs : List (List X)). get_or cs k []) e
    ∙ lane_at n (length xs / n) xs k [] (omega (arith, h, l))

-- one turn of a map over lanes
pub lane_turn : {A B : Type 0} (f : A → B) (xs : List A) (ys to new : List B) (n w m k : ℕ) → to ≡ map f (take n xs) ++ drop n ys
    → new ≡ map f (take k (drop n xs)) → n ≤ length xs → w ≡ k → m ≡ n + k
    → put_mid n w to new ≡ map f (take m xs) ++ drop m ys
lane_turn f xs ys to new n w m k t v h e g =
    ap (λ (j : ℕ). put_mid n j to new) e ∙ ap₂ (put_mid n k) t v ∙ lane_over f xs ys n k h
    ∙ ap (λ (j : ℕ). map f (take j xs) ++ drop j ys) (sym g)

-- the samples that fill no lane
pub rest_turn : {A B : Type 0} (f : A → B) (xs : List A) (ys to new : List B) (n w : ℕ) → to ≡ map f (take n xs) ++ drop n ys
    → new ≡ map f (drop n xs) → n ≤ length xs → n + w ≡ length to
    → put_mid n w to new ≡ map f xs
rest_turn f xs ys to new n w t v h g =
    let done = map f (take n xs) in
    let long : length done ≡ n = grind (arith, common_steps, h) in
    let front : take n to ≡ done = ap (take n) t ∙ ap (λ (m : ℕ). take m (done ++ drop n ys)) (sym long)
    ∙ take-append_seam done (drop n ys) in
    let back : drop w (drop n to) ≡ [] = drop-drop w n to ∙ drop_of_length-le to (omega (arith, g)) in
    ap₂ (λ a b. a ++ (new ++ b)) front back ∙ ap (λ b. done ++ b) (append-nil new) ∙ ap (λ b. done ++ b) v
    ∙ sym (map-append f (take n xs) (drop n xs)) ∙ ap (map f) (take-append-drop n xs)

-- lanes of pairs
pub zip_take : {A B : Type 0} (n : ℕ) (xs : List A) (ys : List B) → zip (take n xs) (take n ys) ≡ take n (zip xs ys)
zip_take zero xs ys = refl
zip_take (suc n) [] ys = refl
zip_take (suc n) (x ∷ xs) [] = refl
zip_take (suc n) (x ∷ xs) (y ∷ ys) = ap (λ t. (x, y) ∷ t) (zip_take n xs ys)

no_pair : {A B : Type 0} (zs : List A) → zip {K = A} {X = B} zs [] ≡ []
no_pair [] = refl
no_pair (z ∷ zs) = refl

pub zip_drop : {A B : Type 0} (n : ℕ) (xs : List A) (ys : List B) → zip (drop n xs) (drop n ys) ≡ drop n (zip xs ys)
zip_drop zero xs ys = refl
zip_drop (suc n) [] ys = refl
zip_drop (suc n) (x ∷ xs) [] = no_pair (drop n xs)
zip_drop (suc n) (x ∷ xs) (y ∷ ys) = zip_drop n xs ys

pub zip_lane : {A B : Type 0} (n k : ℕ) (xs : List A) (ys : List B)
    → zip (take k (drop n xs)) (take k (drop n ys)) ≡ take k (drop n (zip xs ys))
zip_lane n k xs ys = zip_take k (drop n xs) (drop n ys) ∙ ap (take k) (zip_drop n xs ys)

-- what is not written over yet
pub lane_untouched : {A B : Type 0} (f : A → B) (xs : List A) (ys to : List B) (n w : ℕ) → to ≡ map f (take n xs) ++ drop n ys
    → n ≤ length xs → take w (drop n to) ≡ take w (drop n ys)
lane_untouched f xs ys to n w t h =
    let long : length (map f (take n xs)) ≡ n = grind (arith, common_steps, h) in
    ap (λ z. take w (drop n z)) t ∙ ap (take w) (drop-append-drop n ys (map f (take n xs)) n (omega arith) long)

-- a lane and the piece that it is written to are of one length
pub lane_fits : {X Y : Type 0} (xs lane : List X) (to : List Y) (n w k : ℕ) → lane ≡ take k (drop n xs) → n + k ≤ length xs
    → length xs ≡ length to → w ≡ k → length lane ≡ length (take w (drop n to))
lane_fits xs lane to n w k e h l s =
    let left : length (take k (drop n xs)) ≡ k = grind (arith, common_steps, h) in
    let right : length (take k (drop n to)) ≡ k = grind (arith, common_steps, h, l) in
    ap length e ∙ left ∙ sym right ∙ ap (λ (j : ℕ). length (take j (drop n to))) (sym s)

pub piece_length : {X : Type 0} (xs : List X) (n k : ℕ) → n + k ≤ length xs → length (take k (drop n xs)) ≡ k
piece_length xs n k h = grind (arith, common_steps, h)
