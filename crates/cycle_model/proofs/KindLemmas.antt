-- The kind function, whole, is the row of its samples.
use Rattle.std.proofs.Common.{◌≡◌, ℕ, ◌+◌, ◌-◌, ◌*◌, ◌/◌, ◌%◌, ◌<◌, ◌≤◌, min, nat_lt, cond, List, [], ◌∷◌, ◌++◌}
use Rattle.std.proofs.Common.{map, length, take, drop, replicate, get_or, zip, ℤ, pos, refl, ap, ap₂, sym, ◌∙◌, arith, ⊎_elim}
use Rattle.std.proofs.Common.{length-append, length-take, get_or-take, slice_index}
use Rattle.std.specs.List.{range_with_len}
use Rattle.std.proofs.Math.Path.{fun_ext}
use Rattle.std.proofs.lemmas.List.{take-append-le, take_all, length-map, get_or-map, length-replicate, get_or_append_left}
use Rattle.std.proofs.lemmas.List.{get_or-append_right, get_or-replicate}
use Rattle.std.proofs.lemmas.List.FromFn.{fill_by_all, length-map-range_with_len}
use Rattle.std.proofs.lemmas.Slice.Zip.{length-zip, get_or-zip}
use Rattle.std.proofs.lemmas.Bool.{cases_lt, cond-true, cond-false, lt-ltb, le-ltb}
use Rattle.pw_graph.specs.declared.kind.Kind.{Kind}
use Rattle.pw_graph.specs.declared.kind.Kind.TheVariants.{Source, Square, Gain, Mix2, Delay, Map, Split, Sink, Meter, Dummy}
use Rattle.pw_lists.specs.Samples.{scaled, mixed, sample_at, of_frames}
use Rattle.pw_graph.specs.KindFunction.{KindInputs, kind_output}
use Rattle.cycle_model.specs.Cycle.{last_of}
use Rattle.cycle_model.specs.KindSamples.{kind_sample, kind_length}
use Rattle.cycle_model.proofs.RowLemmas.{padded, end_of_row}

-- each sample by a function
pub each_row : (f : ℤ → ℤ) (xs : List ℤ) → map f xs ≡ map (λ i. f (get_or xs i (pos 0))) (range_with_len 0 (length xs))
each_row f xs = fill_by_all (λ i. f (get_or xs i (pos 0))) (map f xs) (length xs) (f (pos 0)) (length-map xs f)
    (λ k h. get_or-map f xs k (pos 0) (f (pos 0)) h)

-- pairs of samples by a function
pub pair_row : (f : ℤ → ℤ → ℤ) (xs ys : List ℤ)
    → map (λ p. f p.0 p.1) (zip xs ys) ≡ map (λ i. f (get_or xs i (pos 0)) (get_or ys i (pos 0)))
    (range_with_len 0 (min (length xs) (length ys)))
pair_row f xs ys =
    let of : ℤ × ℤ → ℤ = λ p. f p.0 p.1 in
    fill_by_all (λ i. f (get_or xs i (pos 0)) (get_or ys i (pos 0))) (map of (zip xs ys)) (min (length xs) (length ys)) (f (pos 0) (pos 0))
    (length-map (zip xs ys) of ∙ length-zip xs ys)
    (λ k h.
    let low : k < length xs = omega arith in
    let high : k < length ys = omega arith in
    get_or-map of (zip xs ys) k (pos 0, pos 0) (f (pos 0) (pos 0)) (omega (arith, length-zip xs ys))
    ∙ ap of (get_or-zip xs ys k (pos 0, pos 0) low high))

-- silence, then a row, cut to the row's length
late_sample : ℕ → List ℤ → ℕ → ℤ
late_sample m xs i = cond (nat_lt i m) (pos 0) (get_or xs (i - m) (pos 0))

late_at : (m : ℕ) (xs : List ℤ) (k : ℕ) → get_or (replicate m (pos 0) ++ xs) k (pos 0) ≡ late_sample m xs k
unfolding late_sample
late_at m xs k = ⊎_elim
    (λ (a : k < m).
    let lt : k < length (replicate m (pos 0)) = omega (arith, length-replicate m (pos 0)) in
    get_or_append_left (replicate m (pos 0)) xs (pos 0) k lt ∙ get_or-replicate m k (pos 0) (pos 0) a
    ∙ sym (cond-true (nat_lt k m) (pos 0) (get_or xs (k - m) (pos 0)) (lt-ltb k m a)))
    (λ (b : m ≤ k).
    get_or-append_right (replicate m (pos 0)) xs m k (pos 0) (length-replicate m (pos 0)) b
    ∙ sym (cond-false (nat_lt k m) (pos 0) (get_or xs (k - m) (pos 0)) (le-ltb k m b)))
    (cases_lt k m)

late_row : (m : ℕ) (xs : List ℤ) → take (length xs) (replicate m (pos 0) ++ xs)
    ≡ map (λ i. cond (nat_lt i m) (pos 0) (get_or xs (i - m) (pos 0))) (range_with_len 0 (length xs))
unfolding late_sample
late_row m xs = fill_by_all (late_sample m xs) (take (length xs) (replicate m (pos 0) ++ xs)) (length xs) (pos 0)
    (omega (arith, length-take (length xs) (replicate m (pos 0) ++ xs), length-append (replicate m (pos 0)) xs))
    (λ k h. get_or-take (length xs) (replicate m (pos 0) ++ xs) k (pos 0) h ∙ late_at m xs k)

-- one channel of each frame
one_row : (n : ℕ) (row : List ℤ) (channel : ℕ) → of_frames n 1 (λ i j. sample_at 2 row i (slice_index (channel ∷ []) j))
    ≡ map (λ i. sample_at 2 row i channel) (range_with_len 0 n)
one_row n row channel =
    let same : (λ (i : ℕ). sample_at 2 row (i / 1) (slice_index (channel ∷ []) (i % 1))) ≡ (λ (i : ℕ). sample_at 2 row i channel) =
    fun_ext (λ (i : ℕ). let d : i / 1 ≡ i = omega arith in let m : i % 1 ≡ 0 = omega arith in
    ap₂ (λ a b. sample_at 2 row a (slice_index (channel ∷ []) b)) d m) in
    let count : n * 1 ≡ n = omega arith in
    ap₂ (λ f k. map f (range_with_len 0 k)) same count

-- the whole stream at an output is the row of its samples
pub kind_rows : (k : Kind) (h : KindInputs) (output : ℕ)
    → kind_output k h output ≡ map (kind_sample k h output) (range_with_len 0 (kind_length k h))
kind_rows Source h output = padded h.wave (h.frames * h.channels)
kind_rows (Square rate channels period amp) h output = refl
kind_rows (Gain g) h output = each_row (scaled g) h.a
kind_rows (Mix2 ga gb) h output = pair_row (mixed ga gb) h.a h.b
kind_rows (Delay frames) h output = late_row (frames * h.channels) h.a
kind_rows (Map channels list) h output = refl
kind_rows Split h output = one_row (length h.a / 2) h.a output
kind_rows Sink h output = refl
kind_rows Meter h output = refl
kind_rows Dummy h output = refl

-- the last samples of a row by index
pub last_rows : (f : ℕ → ℤ) (len n from : ℕ) → from ≡ len - n
    → last_of n (map f (range_with_len 0 len)) ≡ map (λ r. f (from + r)) (range_with_len 0 (len - from))
last_rows f len n from is =
    let long : length (map f (range_with_len 0 len)) ≡ len = length-map-range_with_len f 0 len in
    let whole : len ≡ from + (len - from) = omega arith in
    ap (λ m. drop (m - n) (map f (range_with_len 0 len))) long
    ∙ ap (λ m. drop m (map f (range_with_len 0 len))) (sym is)
    ∙ ap (λ m. drop from (map f (range_with_len 0 m))) whole
    ∙ end_of_row f from (len - from)

pub last_output : (k : Kind) (h : KindInputs) (output n from : ℕ) → from ≡ kind_length k h - n
    → last_of n (kind_output k h output) ≡ map (λ r. kind_sample k h output (from + r)) (range_with_len 0 (kind_length k h - from))
last_output k h output n from is = ap (last_of n) (kind_rows k h output) ∙ last_rows (kind_sample k h output) (kind_length k h) n from is

-- the last samples, written over zeros
pub wrote_last : (k : Kind) (h : KindInputs) (output n len from : ℕ) (row new : List ℤ) → len ≡ kind_length k h → from ≡ len - n
    → row ≡ replicate (len - from) (pos 0)
    → new ≡ map (λ r. kind_sample k h output (from + r)) (range_with_len 0 (length row))
    → take (length row) (new ++ drop (length new) row) ≡ last_of n (kind_output k h output)
wrote_last k h output n len from row new whole is zeros wrote =
    let long : length row ≡ len - from = ap length zeros ∙ length-replicate (len - from) (pos 0) in
    let same : length new ≡ length row = ap length wrote
    ∙ length-map-range_with_len (λ r. kind_sample k h output (from + r)) 0 (length row) in
    let start : from ≡ kind_length k h - n = omega (arith, is, whole) in
    take-append-le (length row) new (drop (length new) row) (omega (arith, same)) ∙ take_all (length row) new (omega (arith, same))
    ∙ wrote
    ∙ ap (λ m. map (λ r. kind_sample k h output (from + r)) (range_with_len 0 m)) (long ∙ ap (λ m. m - from) whole)
    ∙ sym (last_output k h output n from start)
