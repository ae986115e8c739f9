-- A piece of whole frames in a row: its samples, and those that it had before.
use Rattle.std.proofs.Common.{◌≡◌, ℕ, ◌+◌, ◌-◌, ◌*◌, ◌/◌, ◌%◌, ◌≤◌, ◌∙◌, List, ◌++◌, length, take, drop, ap, arith, ℤ}
use Rattle.std.proofs.lemmas.Grind.{common_steps}
use Rattle.std.proofs.lemmas.Slice.{drop-append-drop}
use Rattle.std.proofs.Math.Nat.{add-mul, mul-mod_left, mul-div_cancel}
use Rattle.s16_mixer.proofs.LaneLemmas.{piece_length}
use Rattle.control_sequence.specs.declared.points.Point.{Point}
use Rattle.control_sequence.specs.Automation.{automated}
use Rattle.control_sequence.proofs.AutomationLemmas.{length-automated}

-- n frames after others, as samples
pub piece_size : (channels done n : ℕ) → (done + n) * channels - done * channels ≡ n * channels
piece_size channels done n = omega (arith, add-mul done n channels)

pub samples_of : {X : Type 0} (row : List X) (channels done n : ℕ) → (done + n) * channels ≤ length row
    → length (take ((done + n) * channels - done * channels) (drop (done * channels) row)) ≡ n * channels
samples_of row channels done n l =
    piece_length row (done * channels) ((done + n) * channels - done * channels) (omega (arith, l, add-mul done n channels))
    ∙ piece_size channels done n

-- it has whole frames, and so many
pub whole_frames : (size channels n : ℕ) → size ≡ n * channels → size % channels ≡ 0
whole_frames size channels n is = ap (λ m. m % channels) is ∙ mul-mod_left n channels

pub frames_in : (size channels n : ℕ) → 1 ≤ channels → size ≡ n * channels → size / channels ≡ n
frames_in size channels n some is = ap (λ m. m / channels) is ∙ mul-div_cancel n some

-- what is after the automated frames is as it was
pub piece_untouched : (points : List Point) (channels first : ℕ) (xs row : List ℤ) (n w : ℕ)
    → row ≡ automated points channels first (take n xs) ++ drop n xs → n ≤ length xs → take w (drop n row) ≡ take w (drop n xs)
piece_untouched points channels first xs row n w t h =
    let here = automated points channels first (take n xs) in
    let long : length here ≡ n = length-automated points channels first (take n xs) ∙ grind (arith, common_steps, h) in
    ap (λ z. take w (drop n z)) t ∙ ap (take w) (drop-append-drop n xs here n (omega arith) long)
