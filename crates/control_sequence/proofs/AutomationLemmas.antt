-- A stream by points, piece by piece.
use Rattle.std.proofs.Common.{◌≡◌, ℕ, zero, suc, ◌+◌, ◌-◌, ◌*◌, ◌/◌, ◌%◌, ◌<◌, ◌≤◌, ◌∙◌, List, [], ◌∷◌, ◌++◌, length, take, drop, map, refl, sym}
use Rattle.std.proofs.Common.{mul-le-mul_right, ap, ap₂, arith, ℤ, nat_le, All, take-add, take_all, drop_of_length-le}
use Rattle.std.specs.Prelude.{slice_index_or, AllPairs}
use Rattle.std.specs.List.{enumerate_from}
use Rattle.std.proofs.lemmas.List.{map-append, append-nil}
use Rattle.std.proofs.lemmas.Bool.{lt-leb, le-leb, cond-true, cond-false}
use Rattle.std.proofs.lemmas.List.{get_or-drop}
use Rattle.std.proofs.lemmas.List.FromFn.{length-enumerate_from}
use Rattle.std.proofs.lemmas.Grind.{common_steps}
use Rattle.std.proofs.Math.Nat.{mul-add-div_right, div-lt_iff_lt-mul, add-mul}
use Rattle.std.proofs.lemmas.Nat.{div-add-mod'}
use Rattle.std.proofs.Math.Seq.{drop-cons}
use Rattle.s16_mixer.proofs.LaneLemmas.{piece_written, piece_length}
use borrow.Rule.Slice.PartMut.{put_mid}
use Rattle.pw_lists.specs.Samples.{scaled}
use Rattle.pw_lists.specs.Samples.{IsGain}
use Rattle.control_sequence.specs.declared.points.Point.{Point}
use Rattle.control_sequence.specs.Automation.{gain_after, gain_at, automated, AreBehind, IsBefore}

-- samples with their numbers from k on, each by the gain of its frame
abbrev pub numbered : List Point → ℕ → ℕ → ℕ → List ℤ → List ℤ
numbered points channels first k samples = map (λ s. scaled (gain_at points (first + s.0 / channels)) s.1) (enumerate_from k samples)

enumerate_append : {X : Type 0} (k : ℕ) (xs ys : List X)
    → enumerate_from k (xs ++ ys) ≡ enumerate_from k xs ++ enumerate_from (k + length xs) ys
enumerate_append k [] ys = ap (λ n. enumerate_from n ys) (omega arith)
enumerate_append {X = X} k (x ∷ xs) ys =
    ap (λ (zs : List (ℕ × X)). (k, x) ∷ zs) (enumerate_append (k + 1) xs ys
    ∙ ap (λ n. enumerate_from (k + 1) xs ++ enumerate_from n ys) (omega arith))

numbered_append : (points : List Point) (channels first k : ℕ) (xs ys : List ℤ)
    → numbered points channels first k (xs ++ ys)
    ≡ numbered points channels first k xs ++ numbered points channels first (k + length xs) ys
numbered_append points channels first k xs ys =
    let f : ℕ × ℤ → ℤ = λ s. scaled (gain_at points (first + s.0 / channels)) s.1 in
    ap (map f) (enumerate_append k xs ys) ∙ map-append f (enumerate_from k xs) (enumerate_from (k + length xs) ys)

-- numbers that begin whole frames later
numbered_shift : (points : List Point) (channels first n k : ℕ) → 1 ≤ channels → (xs : List ℤ)
    → numbered points channels first (n * channels + k) xs ≡ numbered points channels (first + n) k xs
numbered_shift points channels first n k some [] = refl
numbered_shift points channels first n k some (x ∷ xs) =
    let frame : first + (n * channels + k) / channels ≡ first + n + k / channels = omega (arith, mul-add-div_right some n k) in
    ap₂ (λ (i : ℕ) (ys : List ℤ). scaled (gain_at points i) x ∷ ys) frame
    (ap (λ m. numbered points channels first m xs) (omega arith) ∙ numbered_shift points channels first n (k + 1) some xs)

-- a stream in two pieces, the first of whole frames
pub automated-append : (points : List Point) (channels first n : ℕ) (xs ys : List ℤ) → 1 ≤ channels → length xs ≡ n * channels
    → automated points channels first (xs ++ ys) ≡ automated points channels first xs ++ automated points channels (first + n) ys
automated-append points channels first n xs ys some whole =
    numbered_append points channels first 0 xs ys
    ∙ ap (λ zs. automated points channels first xs ++ zs) (ap (λ m. numbered points channels first m ys) (omega (arith, whole))
    ∙ numbered_shift points channels first n 0 some ys)

-- where all frames have one gain
steady : (points : List Point) (channels first n : ℕ) (g : ℤ) → 1 ≤ channels → ((i : ℕ) → i < n → gain_at points (first + i) ≡ g)
    → (k : ℕ) (xs : List ℤ) → k + length xs ≤ n * channels → numbered points channels first k xs ≡ map (scaled g) xs
steady points channels first n g some same k [] l = refl
steady points channels first n g some same k (x ∷ xs) l =
    ap₂ (λ (h : ℤ) (ys : List ℤ). scaled h x ∷ ys) (same (k / channels) ((div-lt_iff_lt-mul some).1 (omega (arith, l))))
    (steady points channels first n g some same (k + 1) xs (omega (arith, l)))

-- points that are all later change nothing
held : (g : ℤ) (i : ℕ) (points : List Point) → All (λ p. i < p.offset) points → gain_after g points i ≡ g
held g i [] later = refl
held g i (p ∷ ps) later =
    ap (λ (h : ℤ). gain_after h ps i) (cond-false (nat_le p.offset i) p.g g (lt-leb p.offset i (later 0 p (omega arith))))
    ∙ held g i ps (λ k d l. later (suc k) d (omega (arith, l)))

-- the points from the next on are all later than a frame before it
all_later : (points : List Point) (next i : ℕ) → AllPairs (λ p q. p.offset ≤ q.offset) points → IsBefore points next (suc i)
    → All (λ p. i < p.offset) (drop next points)
all_later points next i rising before zero d l = grind (arith, common_steps, get_or-drop next points 0 d, before d)
all_later points next i rising before (suc k) d l =
    grind (arith, common_steps, get_or-drop next points (suc k) d, before d, rising next (next + suc k) d)

-- up to the next point the gain stays
pub gain_stays : (points : List Point) (next frame n : ℕ) (g : ℤ) → AllPairs (λ p q. p.offset ≤ q.offset) points
    → AreBehind points frame next g → IsBefore points next (frame + n) → (j : ℕ) → j < n → gain_at points (frame + j) ≡ g
gain_stays points next frame n g rising behind before j l =
    sym (behind.2 (frame + j) (omega arith))
    ∙ held g (frame + j) (drop next points) (all_later points next (frame + j) rising (λ d m. omega (arith, before d m)))

-- one point more is passed
pub point_behind : (points : List Point) (frame next : ℕ) (g : ℤ) (p : Point) → AreBehind points frame next g → next < length points
    → p ≡ slice_index_or points next p → p.offset ≤ frame → IsGain p.g → AreBehind points frame (next + 1) p.g
point_behind points frame next g p behind here is early gain = (
  omega arith,
  gain,
  λ i l.
      let one : suc next ≡ next + 1 = omega arith in
      let split : drop next points ≡ p ∷ drop (next + 1) points =
      drop-cons points next p here ∙ ap (λ (x : Point). x ∷ drop (suc next) points) (sym is)
      ∙ ap (λ (n : ℕ). p ∷ drop n points) one in
      sym (ap (λ (h : ℤ). gain_after h (drop (next + 1) points) i) (cond-true (nat_le p.offset i) p.g g (le-leb p.offset i (omega arith))))
      ∙ ap (λ (ps : List Point). gain_after g ps i) (sym split) ∙ behind.2 i l,
)

-- of a later frame
pub still_behind : (points : List Point) (frame later next : ℕ) (g : ℤ) → frame ≤ later → AreBehind points frame next g
    → AreBehind points later next g
still_behind points frame later next g l behind = (behind.0, behind.1, λ i m. behind.2 i (omega arith))

pub length-automated : (points : List Point) (channels first : ℕ) (xs : List ℤ) → length (automated points channels first xs) ≡ length xs
length-automated points channels first xs = grind (arith, common_steps, length-enumerate_from 0 xs)

-- a piece of whole frames, written after those before it
pub frames_written : (points : List Point) (channels first done n : ℕ) (xs ys to new : List ℤ) (from w end : ℕ)
    → 1 ≤ channels → from ≡ done * channels → end ≡ (done + n) * channels → end ≤ length xs → w ≡ end - from
    → to ≡ automated points channels first (take from xs) ++ drop from ys
    → new ≡ automated points channels (first + done) (take w (drop from xs))
    → put_mid from w to new ≡ automated points channels first (take end xs) ++ drop end ys
frames_written points channels first done n xs ys to new from w end some a b l e t last =
    let wide : end ≡ from + n * channels = b ∙ add-mul done n channels ∙ ap (λ m. m + n * channels) (sym a) in
    let width : w ≡ n * channels = omega (arith, wide, e) in
    let here = automated points channels first (take from xs) in
    let long : length here ≡ from = length-automated points channels first (take from xs)
    ∙ grind (arith, common_steps, l, wide) in
    let piece = take w (drop from xs) in
    let whole : length (take from xs) ≡ done * channels = sym (length-automated points channels first (take from xs)) ∙ long ∙ a in
    let joined : here ++ new ≡ automated points channels first (take end xs) =
    ap (λ zs. here ++ zs) last ∙ sym (automated-append points channels first done (take from xs) piece some whole)
    ∙ ap (automated points channels first) (sym (take-add from w xs) ∙ ap (λ m. take m xs) (omega (arith, wide, width))) in
    ap (λ zs. put_mid from w zs new) t ∙ piece_written here ys new from w long
    ∙ ap₂ (λ (zs : List ℤ) (m : ℕ). zs ++ drop m ys) joined (omega (arith, wide, width))

-- a stretch of frames with one gain, written after those before it
pub stretch_written : (points : List Point) (channels first done n : ℕ) (g : ℤ) (xs ys to new : List ℤ) (from w end : ℕ)
    → 1 ≤ channels → from ≡ done * channels → end ≡ (done + n) * channels → end ≤ length xs → w ≡ end - from
    → to ≡ automated points channels first (take from xs) ++ drop from ys
    → ((j : ℕ) → j < n → gain_at points (first + done + j) ≡ g)
    → new ≡ map (scaled g) (take w (drop from xs))
    → put_mid from w to new ≡ automated points channels first (take end xs) ++ drop end ys
stretch_written points channels first done n g xs ys to new from w end some a b l e t same v =
    let wide : end ≡ from + n * channels = b ∙ add-mul done n channels ∙ ap (λ m. m + n * channels) (sym a) in
    let width : w ≡ n * channels = omega (arith, wide, e) in
    let piece = take w (drop from xs) in
    let size : length piece ≡ w = piece_length xs from w (omega (arith, wide, width, l)) in
    frames_written points channels first done n xs ys to new from w end some a b l e t
    (v ∙ sym (steady points channels (first + done) n g some same 0 piece (omega (arith, size, width))))

-- so many whole frames, as samples
pub whole_samples : (size channels n : ℕ) → size % channels ≡ 0 → n ≤ size / channels → n * channels ≤ size
whole_samples size channels n whole l =
    omega (arith, mul-le-mul_right channels l, div-add-mod' size channels, whole)

-- all of a stream
pub whole_stream : (points : List Point) (channels first : ℕ) (xs ys : List ℤ) → length xs ≡ length ys
    → automated points channels first (take (length xs) xs) ++ drop (length xs) ys ≡ automated points channels first xs
whole_stream points channels first xs ys same =
    ap₂ (λ (a b : List ℤ). automated points channels first a ++ b) (take_all (length xs) xs (omega arith)) (drop_of_length-le ys (omega (arith, same)))
    ∙ append-nil (automated points channels first xs)
