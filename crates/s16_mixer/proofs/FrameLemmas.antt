-- Rows of frames.
use Rattle.std.proofs.Common.{◌≡◌, ℕ, suc, zero, ◌+◌, ◌*◌, ◌/◌, ◌%◌, ◌<◌, ◌∙◌, List, [], ◌∷◌, ◌++◌, length, get_or}
use Rattle.std.proofs.Common.{take, drop, map, refl, ap, ap₂, sym, arith, ℤ, slice_index, mul-zero, mod-lt, add-mul, add-zero, suc-mul}
use Rattle.std.proofs.Common.{mul-le-mul_right, length-append, pos, All, ◌≤◌, get_or-append-add, append-nil, drop_of_length-le}
use Rattle.std.proofs.Common.{take-append-drop, take-add}
use Rattle.s16_mixer.proofs.LaneLemmas.{piece_written}
use borrow.Rule.Slice.PartMut.{put_mid}
use Rattle.std.specs.List.{range_with_len}
use Rattle.std.proofs.Math.Path.{fun_ext}
use Rattle.std.proofs.Math.Nat.{div-one, mod-one, div-lt_iff_lt-mul, mul-add-div_right, mul-add-mod_self_right}
use Rattle.std.proofs.Math.Seq.{take-append_seam}
use Rattle.std.proofs.lemmas.Slice.{drop-append-drop}
use Rattle.std.proofs.lemmas.List.{map-append, get_or_append_left}
use Rattle.std.proofs.lemmas.Nat.{div-mul-add, mod-mul-add}
use Rattle.std.proofs.lemmas.List.FromFn.{length-map-range_with_len}
use Rattle.std.proofs.lemmas.Grind.{common_steps}
use Rattle.pw_lists.specs.Samples.{of_frames, picked, sample_at}

-- the places up to a sum, in two parts
range_joined : (a n m : ℕ) → range_with_len a (n + m) ≡ range_with_len a n ++ range_with_len (a + n) m
range_joined a zero m = grind (arith, common_steps)
range_joined a (suc n) m =
    let long : suc n + m ≡ suc (n + m) = omega arith in
    let from : a + 1 + n ≡ a + suc n = omega arith in
    ap (range_with_len a) long ∙ ap (λ t. a ∷ t) (range_joined (a + 1) n m ∙ ap (λ b. range_with_len (a + 1) n ++ range_with_len b m) from)

-- a function of the places is a function of a list's elements
map_places : {B : Type 0} (f : ℕ → B) (g : ℕ → B) (xs : List ℕ) (a : ℕ) → ((k : ℕ) → k < length xs → f (a + k) ≡ g (get_or xs k 0))
    → map f (range_with_len a (length xs)) ≡ map g xs
map_places f g [] a h = refl
map_places f g (x ∷ xs) a h =
    let here : a ≡ a + 0 = omega arith in
    let head : f a ≡ g x = ap f here ∙ h 0 (omega arith) in
    ap₂ (λ y t. y ∷ t) head (map_places f g xs (a + 1)
    (λ k lt. let there : a + 1 + k ≡ a + suc k = omega arith in ap f there ∙ h (suc k) (omega arith)))

-- one frame more
pub of_frames-suc : (f : ℕ → ℕ → ℤ) (g : ℕ → ℤ) (xs : List ℕ) (i : ℕ) → ((k : ℕ) → k < length xs → f i k ≡ g (get_or xs k 0))
    → of_frames (i + 1) (length xs) f ≡ of_frames i (length xs) f ++ map g xs
of_frames-suc f g xs i h =
    let w = length xs in
    let at : ℕ → ℤ = λ x. f (x / w) (x % w) in
    let long : (i + 1) * w ≡ i * w + w = omega arith in
    let each : (k : ℕ) → k < w → at (0 + i * w + k) ≡ g (get_or xs k 0) = λ k lt.
    let place : 0 + i * w + k ≡ i * w + k = omega arith in
    ap at place ∙ ap₂ f (div-mul-add i w k lt) (mod-mul-add i w k lt) ∙ h k lt in
    ap (λ n. map at (range_with_len 0 n)) long
    ∙ ap (map at) (range_joined 0 (i * w) w)
    ∙ map-append at (range_with_len 0 (i * w)) (range_with_len (0 + i * w) w)
    ∙ ap (λ t. map at (range_with_len 0 (i * w)) ++ t) (map_places at g xs (0 + i * w) each)

-- a frame that is written after those before it
pub frame_over : (f : ℕ → ℕ → ℤ) (g : ℕ → ℤ) (xs : List ℕ) (i : ℕ) (ys ts : List ℤ)
    → ((k : ℕ) → k < length xs → f i k ≡ g (get_or xs k 0))
    → ts ≡ of_frames i (length xs) f ++ drop (i * length xs) ys
    → take (i * length xs) ts ++ map g xs ++ drop ((i + 1) * length xs) ts
    ≡ of_frames (i + 1) (length xs) f ++ drop ((i + 1) * length xs) ys
frame_over f g xs i ys ts h e =
    let n = i * length xs in
    let m = (i + 1) * length xs in
    let done = of_frames i (length xs) f in
    let long : length done ≡ n = length-map-range_with_len _ 0 n in
    let front : take n ts ≡ done = ap (take n) e ∙ ap (λ k. take k (done ++ drop n ys)) (sym long) ∙ take-append_seam done (drop n ys) in
    let back : drop m ts ≡ drop m ys = ap (drop m) e ∙ drop-append-drop n ys done m (omega arith) long in
    ap₂ (λ a b. a ++ map g xs ++ b) front back ∙ ap (λ t. t ++ drop m ys) (sym (of_frames-suc f g xs i h))

-- frames of one channel
pub of_frames_one : (f : ℕ → ℕ → ℤ) (n : ℕ) → of_frames n 1 f ≡ map (λ i. f i 0) (range_with_len 0 n)
of_frames_one f n =
    let long : n * 1 ≡ n = omega arith in
    let same : (λ (i : ℕ). f (i / 1) (i % 1)) ≡ (λ i. f i 0) = fun_ext (λ i. ap₂ f (div-one i) (mod-one i)) in
    ap (λ k. map (λ i. f (i / 1) (i % 1)) (range_with_len 0 k)) long ∙ ap (λ (at : ℕ → ℤ). map at (range_with_len 0 n)) same

-- one channel of each stereo frame, written over a whole row
pub picked_one : (row ys ts : List ℤ) (c i : ℕ) → i ≡ length row / 2 → length ys ≡ i
    → ts ≡ map (λ k. sample_at 2 row k c) (range_with_len 0 i) ++ drop i ys
    → ts ≡ picked 2 (c ∷ []) row
picked_one row ys ts c i e h t =
    let front = map (λ k. sample_at 2 row k c) (range_with_len 0 i) in
    let whole : front ++ drop i ys ≡ front = grind (arith, common_steps) in
    t ∙ whole ∙ ap (λ n. map (λ k. sample_at 2 row k c) (range_with_len 0 n)) e
    ∙ sym (of_frames_one (λ i j. sample_at 2 row i (slice_index (c ∷ []) j)) (length row / 2))

-- a function of places that are counted from elsewhere
map_moved : {B : Type 0} (f g : ℕ → B) (n a b : ℕ) → ((k : ℕ) → k < n → f (a + k) ≡ g (b + k))
    → map f (range_with_len a n) ≡ map g (range_with_len b n)
map_moved f g zero a b h = refl
map_moved f g (suc n) a b h =
    let from : a ≡ a + 0 = omega arith in
    let to : b + 0 ≡ b = omega arith in
    let head : f a ≡ g b = ap f from ∙ h 0 (omega arith) ∙ ap g to in
    ap₂ (λ y t. y ∷ t) head (map_moved f g n (a + 1) (b + 1) (λ k lt.
    let left : a + 1 + k ≡ a + suc k = omega arith in
    let right : b + suc k ≡ b + 1 + k = omega arith in
    ap f left ∙ h (suc k) (omega (arith, lt)) ∙ ap g right))

-- frames of two rows, one after the other
pub of_frames-add : (f g h : ℕ → ℕ → ℤ) (a m w : ℕ) → ((i j : ℕ) → i < a → j < w → f i j ≡ g i j)
    → ((i j : ℕ) → i < m → j < w → f (a + i) j ≡ h i j)
    → of_frames (a + m) w f ≡ of_frames a w g ++ of_frames m w h
of_frames-add f g h a m zero left right =
    let none : (r : ℕ → ℕ → ℤ) (n : ℕ) → of_frames n zero r ≡ [] =
    λ r n. ap (λ k. map (λ i. r (i / zero) (i % zero)) (range_with_len 0 k)) (mul-zero n) in
    none f (a + m) ∙ sym (ap₂ (λ x y. x ++ y) (none g a) (none h m))
of_frames-add f g h a m (suc v) left right =
    let w = suc v in
    let at : (ℕ → ℕ → ℤ) → ℕ → ℤ = λ r x. r (x / w) (x % w) in
    let long : (a + m) * w ≡ a * w + m * w = omega arith in
    ap (λ n. map (at f) (range_with_len 0 n)) long
    ∙ ap (map (at f)) (range_joined 0 (a * w) (m * w))
    ∙ map-append (at f) (range_with_len 0 (a * w)) (range_with_len (0 + a * w) (m * w))
    ∙ ap₂ (λ x y. x ++ y)
    (map_moved (at f) (at g) (a * w) 0 0 (λ k lt.
    let k0 : 0 + k ≡ k = omega arith in
    ap (at f) k0 ∙ left (k / w) (k % w) ((div-lt_iff_lt-mul {k = w} {x = k} {y = a} (omega arith)).1 lt) (mod-lt k (omega arith))
    ∙ ap (at g) (sym k0)))
    (map_moved (at f) (at h) (m * w) (0 + a * w) 0 (λ k lt.
    let k0 : 0 + k ≡ k = omega arith in
    let there : 0 + a * w + k ≡ a * w + k = omega arith in
    let row : (a * w + k) / w ≡ a + k / w = mul-add-div_right (omega arith) a k in
    let column : (a * w + k) % w ≡ k % w = mul-add-mod_self_right a w k in
    ap (at f) there ∙ ap₂ f row column ∙ right (k / w) (k % w) ((div-lt_iff_lt-mul {k = w} {x = k} {y = m} (omega arith)).1 lt)
    (mod-lt k (omega arith)) ∙ ap (at h) (sym k0)))

-- channels of two rows, one after the other
pub picked_append : (channels : ℕ) (list : List ℕ) (xs ys : List ℤ) (a : ℕ) → 0 < channels → length xs ≡ a * channels
    → All (λ c. c < channels) list
    → picked channels list (xs ++ ys) ≡ picked channels list xs ++ picked channels list ys
picked_append channels list xs ys a some whole within =
    let m = length ys / channels in
    let w = length list in
    let rows : length (xs ++ ys) / channels ≡ a + m = ap (λ n. n / channels) (length-append xs ys ∙ ap (λ n. n + length ys) whole)
    ∙ mul-add-div_right some a (length ys) in
    let first : length xs / channels ≡ a = ap (λ n. n / channels) (whole ∙ sym (add-zero (a * channels))) ∙ div-mul-add a channels 0 some in
    let f : ℕ → ℕ → ℤ = λ i j. sample_at channels (xs ++ ys) i (slice_index list j) in
    let g : ℕ → ℕ → ℤ = λ i j. sample_at channels xs i (slice_index list j) in
    let h : ℕ → ℕ → ℤ = λ i j. sample_at channels ys i (slice_index list j) in
    ap (λ n. of_frames n w f) rows
    ∙ of_frames-add f g h a m w
    (λ i j lt in_list.
    let c = slice_index list j in
    let small : c < channels = within j 0 in_list in
    let full : suc i * channels ≤ a * channels = mul-le-mul_right channels lt in
    let next = suc-mul i channels in
    get_or_append_left xs ys (pos 0) (i * channels + c) (omega (arith, small, full, next, whole)))
    (λ i j lt in_list.
    let c = slice_index list j in
    let place : (a + i) * channels + c ≡ length xs + (i * channels + c) = omega (arith, add-mul a i channels, whole) in
    ap (λ n. get_or (xs ++ ys) n (pos 0)) place ∙ get_or-append-add xs ys (i * channels + c) (pos 0))
    ∙ ap (λ n. of_frames n w g ++ picked channels list ys) (sym first)

-- how long a row of whole frames is, and of what is picked of it
picked_length : (channels : ℕ) (list : List ℕ) (row : List ℤ) (a : ℕ) → 0 < channels → length row ≡ a * channels
    → length (picked channels list row) ≡ a * length list
picked_length channels list row a some whole =
    let first : length row / channels ≡ a = ap (λ n. n / channels) (whole ∙ sym (add-zero (a * channels)))
    ∙ div-mul-add a channels 0 some in
    length-map-range_with_len _ 0 (length row / channels * length list) ∙ ap (λ n. n * length list) first

-- one lane more of frames
pub frames_turn : (channels : ℕ) (list : List ℕ) (s ys to new : List ℤ) (n m a w k d : ℕ) → 0 < channels → All (λ c. c < channels) list
    → n ≡ a * channels → n ≤ length s → m ≡ a * length list
    → to ≡ picked channels list (take n s) ++ drop m ys → new ≡ picked channels list (take k (drop n s)) → w ≡ d
    → put_mid m w to new ≡ picked channels list (take (n + k) s) ++ drop (m + d) ys
frames_turn channels list s ys to new n m a w k d some within whole inside place t v e =
    let front = take n s in
    let long : length front ≡ a * channels = grind (arith, common_steps, inside, whole) in
    ap (λ (j : ℕ). put_mid m j to new) e ∙ ap₂ (put_mid m d) t v
    ∙ piece_written (picked channels list front) ys (picked channels list (take k (drop n s))) m d
    (picked_length channels list front a some long ∙ sym place)
    ∙ ap (λ r. r ++ drop (m + d) ys) (sym (picked_append channels list front (take k (drop n s)) a some long within)
    ∙ ap (picked channels list) (sym (take-add n k s)))

-- the frames that fill no lane
pub frames_rest : (channels : ℕ) (list : List ℕ) (s ys to new : List ℤ) (n m a w : ℕ) → 0 < channels → All (λ c. c < channels) list
    → n ≡ a * channels → n ≤ length s → m ≡ a * length list
    → to ≡ picked channels list (take n s) ++ drop m ys → new ≡ picked channels list (drop n s) → m + w ≡ length to → length to ≡ length ys
    → put_mid m w to new ≡ picked channels list s
frames_rest channels list s ys to new n m a w some within whole inside place t v end same =
    let front = take n s in
    let long : length front ≡ a * channels = grind (arith, common_steps, inside, whole) in
    ap₂ (put_mid m w) t v
    ∙ piece_written (picked channels list front) ys (picked channels list (drop n s)) m w
    (picked_length channels list front a some long ∙ sym place)
    ∙ ap (λ r. (picked channels list front ++ picked channels list (drop n s)) ++ r) (drop_of_length-le ys (omega (arith, end, same)))
    ∙ append-nil (picked channels list front ++ picked channels list (drop n s))
    ∙ sym (picked_append channels list front (drop n s) a some long within) ∙ ap (picked channels list) (take-append-drop n s)
