-- Reading and writing piece by piece is reading and writing at once.
use Rattle.std.proofs.Common.{◌≡◌, ℕ, ◌%◌, List, [], ◌∷◌, ◌++◌, length, refl, sym, ap, ap₂, ◌∙◌, arith, append_assoc, ℤ}
use Rattle.std.proofs.lemmas.Grind.{flat_map-append}
use Rattle.std.specs.Int.{w16, cast_signed, cast_unsigned}
use Rattle.byteorder.specs.Endian.{little_number, little_bytes}
use Rattle.wav_files.specs.WavReading.{samples_in}
use Rattle.wav_files.specs.WavWriting.{sample_bytes}
use Rattle.wav_files.proofs.WavReadingLemmas.{length-sample_bytes}

-- the samples in an even number of bytes come first
pub samples_in-append : (xs ys : List ℕ) → length xs % 2 ≡ 0 → samples_in (xs ++ ys) ≡ samples_in xs ++ samples_in ys
samples_in-append [] ys even = refl
samples_in-append (low ∷ []) ys even = absurd (omega arith)
samples_in-append (low ∷ high ∷ rest) ys even =
    ap (λ (zs : List ℤ). cast_signed w16 (little_number 2 (low ∷ high ∷ [])) ∷ zs) (samples_in-append rest ys (omega arith))

-- the bytes of samples, one part after the other
pub sample_bytes-append : (xs ys : List ℤ) → sample_bytes (xs ++ ys) ≡ sample_bytes xs ++ sample_bytes ys
sample_bytes-append xs ys = flat_map-append (λ (s : ℤ). little_bytes 2 (cast_unsigned w16 s)) xs ys

-- one piece more is read
pub piece_read : (to : List ℤ) (left piece later : List ℕ) → left ≡ piece ++ later → length piece % 2 ≡ 0
    → (to ++ samples_in piece) ++ samples_in later ≡ to ++ samples_in left
piece_read to left piece later parts even =
    append_assoc to (samples_in piece) (samples_in later)
    ∙ ap (λ (zs : List ℤ). to ++ zs) (sym (ap samples_in parts ∙ samples_in-append piece later even))

-- one piece more is written
pub piece_written : (to : List ℕ) (left piece later : List ℤ) → left ≡ piece ++ later
    → (to ++ sample_bytes piece) ++ sample_bytes later ≡ to ++ sample_bytes left
piece_written to left piece later parts =
    append_assoc to (sample_bytes piece) (sample_bytes later)
    ∙ ap (λ (xs : List ℕ). to ++ xs) (sym (ap sample_bytes parts ∙ sample_bytes-append piece later))

-- samples are read back where those of both parts are
pub parts_read_back : (left piece later : List ℤ) → left ≡ piece ++ later → samples_in (sample_bytes piece) ≡ piece
    → samples_in (sample_bytes later) ≡ later → samples_in (sample_bytes left) ≡ left
parts_read_back left piece later parts front back =
    let even : length (sample_bytes piece) % 2 ≡ 0 = omega (arith, length-sample_bytes piece) in
    ap (λ (zs : List ℤ). samples_in (sample_bytes zs)) parts
    ∙ ap samples_in (sample_bytes-append piece later)
    ∙ samples_in-append (sample_bytes piece) (sample_bytes later) even
    ∙ ap₂ (λ (xs ys : List ℤ). xs ++ ys) front back
    ∙ sym parts
