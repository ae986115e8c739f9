-- What writing and reading have to do with each other, and one step of reading along a list of chunks.
use Rattle.std.proofs.Common.{◌≡◌, ℕ, suc, ◌+◌, ◌*◌, ◌/◌, ◌%◌, ◌<◌, ◌≤◌, ◌&&◌, ◌==◌, not, nat_lt, nat_le, bytes_eq}
use Rattle.std.proofs.Common.{codes, Option, Some, None, Bool, true, false, List, [], ◌∷◌, ◌++◌, length, take, drop, get_or, refl, sym, ap}
use Rattle.std.proofs.Common.{ap₂, ◌∙◌, arith, ℤ, pos, length-append, length-drop, length-take-le, take_at, take_all, append_assoc, lit<}
use Rattle.std.proofs.Common.{append-nil, FitsSigned, Ok, Err, to_z-of_z}
use mir.Facts.{Fits-of_z}
use Rattle.std.proofs.lemmas.List.{take_more}
use Rattle.std.proofs.lemmas.Grind.{flat_map-append}
use Rattle.std.proofs.lemmas.Bool.Decides.{nat_tests}
use Rattle.std.specs.Int.{w16, cast_signed, cast_unsigned}
use Rattle.std.proofs.Math.Arith.{mod-mul}
use Rattle.byteorder.specs.Endian.{little_number, little_bytes, IsReadBy}
use Rattle.byteorder.specs.Numbers.{little_number-reads_back}
use Rattle.wav_files.specs.declared.wav.Wav.{Wav}
use Rattle.wav_files.specs.declared.form.Form.{Form}
use Rattle.wav_files.specs.Chunks.{Chunk, chunk_at, is_whole, is_riff, is_data, after, chunks_of}
use Rattle.wav_files.specs.FormatChunk.{tag, bits, block_align, is_extensible, is_pcm16, is_form, named_form, form_of}
use Rattle.wav_files.specs.WavWriting.{sample_bytes, wav_header, wav_bytes, IsWave}
use Rattle.wav_files.specs.WavReading.{samples_in, data_of, form_after, known_form, missing, go_on, parts_from, parts_of, wave_of, wav_of}
use Rattle.wav_files.proofs.ChunksLemmas.{if-true, if-false, chunks_of-head, chunks_of-end}

-- there is a sample for each two bytes
pub length-samples_in : (xs : List ℕ) → length xs ≡ 2 * length (samples_in xs) + length xs % 2
length-samples_in [] = refl
length-samples_in (low ∷ []) = refl
length-samples_in (low ∷ high ∷ rest) = let e = length-samples_in rest in omega (arith, e)

-- there are two bytes for each sample
pub length-sample_bytes : (zs : List ℤ) → length (sample_bytes zs) ≡ 2 * length zs
length-sample_bytes [] = refl
length-sample_bytes (z ∷ zs) = let e = length-sample_bytes zs in omega (arith, e)

-- the bytes of samples are these samples
pub samples_in-sample_bytes : (zs : List ℤ) → ((k : ℕ) → k < length zs → FitsSigned w16 (get_or zs k (pos 0)))
    → samples_in (sample_bytes zs) ≡ zs
samples_in-sample_bytes [] fits = refl
samples_in-sample_bytes (z ∷ zs) fits =
    let fit : FitsSigned w16 z = fits 0 (omega arith) in
    let number : little_number 2 (little_bytes 2 (cast_unsigned w16 z) ++ []) ≡ cast_unsigned w16 z =
    little_number-reads_back 2 (cast_unsigned w16 z) [] (omega (arith, Fits-of_z fit)) in
    let back : cast_signed w16 (cast_unsigned w16 z) ≡ z = to_z-of_z fit in
    let others : samples_in (sample_bytes zs) ≡ zs = samples_in-sample_bytes zs (λ k h. fits (suc k) (omega arith)) in
    ap₂ (λ (x : ℤ) (xs : List ℤ). x ∷ xs) (ap (cast_signed w16) number ∙ back) others

-- what was read pair by pair is the samples
pub samples_in_is : (xs : List ℕ) (zs : List ℤ) → length xs ≡ 2 * length zs → IsReadBy (λ ys. cast_signed w16 (little_number 2 ys)) 2 xs zs
    → zs ≡ samples_in xs
samples_in_is [] [] size read = refl
samples_in_is [] (z ∷ zs) size read = absurd (omega arith)
samples_in_is (low ∷ []) [] size read = absurd (omega arith)
samples_in_is (low ∷ []) (z ∷ zs) size read = absurd (omega arith)
samples_in_is (low ∷ high ∷ rest) [] size read = absurd (omega arith)
samples_in_is (low ∷ high ∷ rest) (z ∷ zs) size read =
    let others : zs ≡ samples_in rest = samples_in_is rest zs (omega arith) (λ d k h.
    let next : 2 * suc k ≡ suc (suc (2 * k)) = omega arith in
    read d (suc k) (omega arith) ∙ ap (λ (n : ℕ). cast_signed w16 (little_number 2 (drop n (low ∷ high ∷ rest)))) next) in
    ap₂ (λ (x : ℤ) (xs : List ℤ). x ∷ xs) (read z 0 (omega arith)) others

-- waves with equal parts are equal
pub same_waves : (a b : Wav) → a.rate ≡ b.rate → a.channels ≡ b.channels → a.samples ≡ b.samples → a ≡ b
same_waves a b rate channels samples =
    ap (λ (r : ℕ). let w : Wav = record { rate = r; channels = a.channels; samples = a.samples } in w) rate
    ∙ ap (λ (c : ℕ). let w : Wav = record { rate = b.rate; channels = c; samples = a.samples } in w) channels
    ∙ ap (λ (s : List ℤ). let w : Wav = record { rate = b.rate; channels = b.channels; samples = s } in w) samples

-- the length of a written wave
pub length-wav_bytes : (wav : Wav) → length (wav_bytes wav) ≡ 44 + 2 * length wav.samples
length-wav_bytes wav =
    length-append (wav_header wav.rate wav.channels (2 * length wav.samples)) (sample_bytes wav.samples)
    ∙ ap (λ (n : ℕ). 44 + n) (length-sample_bytes wav.samples)

-- one step along a list of chunks
pub parts_from-end : (known : Option Form) (bytes : List ℕ) → length bytes < 8 → parts_from known (chunks_of bytes) ≡ Err (missing known)
unfolding parts_from
parts_from-end known bytes short = ap (parts_from known) (chunks_of-end bytes short)

pub parts_from-data : (known : Option Form) (bytes : List ℕ) → 8 ≤ length bytes → is_data (chunk_at bytes) ≡ true
    → parts_from known (chunks_of bytes) ≡ data_of known (chunk_at bytes)
unfolding parts_from
parts_from-data known bytes long samples = ap (parts_from known) (chunks_of-head bytes long)
    ∙ if-true (is_data (chunk_at bytes)) _ _ samples

pub parts_from-other : (known : Option Form) (bytes : List ℕ) → 8 ≤ length bytes → is_data (chunk_at bytes) ≡ false
    → parts_from known (chunks_of bytes) ≡ go_on (form_after known (chunk_at bytes))
    (λ next. parts_from next (chunks_of (after (chunk_at bytes))))
unfolding parts_from
parts_from-other known bytes long other =
    ap (parts_from known) (chunks_of-head bytes long)
    ∙ if-false (is_data (chunk_at bytes)) _ _ other
    ∙ ap (λ chunks. go_on (form_after known (chunk_at bytes)) (λ next. parts_from next chunks))
    (if-false (is_data (chunk_at bytes)) [] (chunks_of (after (chunk_at bytes))) other)

-- twice a number, over twice a count of channels
double-mod : (n channels : ℕ) → 1 ≤ channels → (2 * n) % (2 * channels) ≡ 2 * (n % channels)
double-mod n channels low =
    let halves : (2 * n) % (channels * 2) ≡ ((2 * n) / 2 % channels) * 2 + (2 * n) % 2 =
    mod-mul (2 * n) {m = channels} {c = 2} low (lit< tt) in
    let half : (2 * n) / 2 ≡ n = omega arith in
    let even : (2 * n) % 2 ≡ 0 = omega arith in
    let turned : 2 * channels ≡ channels * 2 = omega arith in
    ap (λ (d : ℕ). (2 * n) % d) turned ∙ halves ∙ ap₂ (λ (x y : ℕ). (x % channels) * 2 + y) half even ∙ (omega arith)

-- bytes of whole frames are samples of whole frames
pub whole_samples : (bytes : List ℕ) (channels : ℕ) → 1 ≤ channels → length bytes % (2 * channels) ≡ 0 → length bytes % 2 ≡ 0
    → length (samples_in bytes) % channels ≡ 0
whole_samples bytes channels low whole even =
    let count : length bytes ≡ 2 * length (samples_in bytes) = omega (arith, length-samples_in bytes) in
    let doubled : (2 * length (samples_in bytes)) % (2 * channels) ≡ 0 = ap (λ (n : ℕ). n % (2 * channels)) (sym count) ∙ whole in
    let half = double-mod (length (samples_in bytes)) channels low in
    let twice : 2 * (length (samples_in bytes) % channels) ≡ 0 = sym half ∙ doubled in
    omega arith

-- whole frames of two bytes a channel are an even number of bytes
pub whole-even : (n channels : ℕ) → 1 ≤ channels → n % (2 * channels) ≡ 0 → n % 2 ≡ 0
whole-even n channels low whole =
    let halves : n % (channels * 2) ≡ (n / 2 % channels) * 2 + n % 2 = mod-mul n {m = channels} {c = 2} low (lit< tt) in
    let turned : channels * 2 ≡ 2 * channels = omega arith in
    let none : n % (channels * 2) ≡ 0 = ap (λ (d : ℕ). n % d) turned ∙ whole in
    omega arith

-- a format chunk as it is written
form_of-plain : (chunk : Chunk) (form : Form) → chunk.size ≡ 16 → 16 ≤ length chunk.body → tag chunk ≡ 1 → bits chunk ≡ 16
    → block_align chunk ≡ 2 * form.channels
    → named_form chunk ≡ form → is_form form ≡ true → form_of chunk ≡ Ok form
unfolding form_of
form_of-plain chunk form size room plain sixteen frame named ranges =
    let t1 : nat_lt chunk.size 16 ≡ false = grind (arith, nat_tests) in
    let t2 : not (is_whole chunk) ≡ false = grind (arith, nat_tests) in
    let t3 : (is_extensible chunk && nat_lt chunk.size 40) ≡ false = grind (arith, nat_tests) in
    let t4 : not (is_pcm16 chunk) ≡ false = grind (arith, nat_tests) in
    let t5 : not (is_form (named_form chunk)) ≡ false = ap (λ f. not (is_form f)) named ∙ ap not ranges in
    let channels : (named_form chunk).channels ≡ form.channels = ap (λ (f : Form). f.channels) named in
    let t6 : not (block_align chunk == 2 * (named_form chunk).channels) ≡ false = grind (arith, nat_tests) in
    if-false (nat_lt chunk.size 16) _ _ t1 ∙ if-false (not (is_whole chunk)) _ _ t2
    ∙ if-false (is_extensible chunk && nat_lt chunk.size 40) _ _ t3
    ∙ if-false (not (is_pcm16 chunk)) _ _ t4 ∙ if-false (not (is_form (named_form chunk))) _ _ t5
    ∙ if-false (not (block_align chunk == 2 * (named_form chunk).channels)) _ _ t6 ∙ ap Ok named

-- a chunk of samples as it is written
data_of-plain : (form : Form) (chunk : Chunk) → chunk.size ≡ length chunk.body → chunk.size < 4294967295
    → chunk.size % (2 * form.channels) ≡ 0 → data_of (Some form) chunk ≡ Ok (form, chunk.body)
unfolding data_of
data_of-plain form chunk size small whole =
    let t1 : (chunk.size == 4294967295) ≡ false = grind (arith, nat_tests) in
    let t2 : not (is_whole chunk) ≡ false = grind (arith, nat_tests) in
    let t3 : not (chunk.size % (2 * form.channels) == 0) ≡ false = grind (arith, nat_tests) in
    if-false (chunk.size == 4294967295) _ _ t1 ∙ if-false (not (is_whole chunk)) _ _ t2
    ∙ if-false (not (chunk.size % (2 * form.channels) == 0)) _ _ t3
    ∙ ap (λ (d : List ℕ). Ok (form, d)) (take_all chunk.size chunk.body (omega arith))

-- three tests
all_three : (a b c : Bool) → a ≡ true → b ≡ true → c ≡ true → (a && b && c) ≡ true
all_three a b c p q r = rw (p, q, r) refl

-- the test of a file's front
riff_from : (bytes : List ℕ) → 12 ≤ length bytes → bytes_eq (take 4 bytes) (codes "RIFF") ≡ true
    → bytes_eq (take 4 (drop 8 bytes)) (codes "WAVE") ≡ true → is_riff bytes ≡ true
riff_from bytes long riff wave = let front : nat_le 12 (length bytes) ≡ true = grind (arith, nat_tests) in all_three _ _ _ front riff wave

-- a wave is of a form
is_form-wave : (wav : Wav) → IsWave wav → is_form (record { rate = wav.rate; channels = wav.channels }) ≡ true
is_form-wave wav is = grind (arith, nat_tests)

-- the chunks of a written wave, from the format chunk on
parts_from-written : (wav : Wav) → IsWave wav → (form : Form) → form ≡ record { rate = wav.rate; channels = wav.channels }
    → parts_from None (chunks_of (drop 12 (wav_bytes wav))) ≡ Ok (form, sample_bytes wav.samples)
unfolding form_after
parts_from-written wav is form same =
    let size = length-wav_bytes wav in
    let first : List ℕ = drop 12 (wav_bytes wav) in
    let second : List ℕ = drop 36 (wav_bytes wav) in
    let long1 : 8 ≤ length first = omega (arith, length-drop 12 (wav_bytes wav), size) in
    let long2 : 8 ≤ length second = omega (arith, length-drop 36 (wav_bytes wav), size) in
    let room : 16 ≤ length (chunk_at first).body = omega (arith, length-drop 20 (wav_bytes wav), size) in
    let rate : little_number 4 (drop 24 (wav_bytes wav)) ≡ wav.rate =
    little_number-reads_back 4 wav.rate (drop 28 (wav_bytes wav)) (omega (arith, is.rate.1)) in
    let channels : little_number 2 (drop 22 (wav_bytes wav)) ≡ wav.channels =
    little_number-reads_back 2 wav.channels (drop 24 (wav_bytes wav)) (omega (arith, is.channels.1)) in
    let align : little_number 2 (drop 32 (wav_bytes wav)) ≡ 2 * wav.channels =
    little_number-reads_back 2 (2 * wav.channels) (drop 34 (wav_bytes wav)) (omega (arith, is.channels.1)) in
    let named : named_form (chunk_at first) ≡ form = ap₂ (λ (r c : ℕ). let f : Form = record { rate = r; channels = c } in f) rate channels
    ∙ sym same in
    let frame : block_align (chunk_at first) ≡ 2 * form.channels = align ∙ ap (λ (f : Form). 2 * f.channels) (sym same) in
    let ranges : is_form form ≡ true = ap is_form same ∙ is_form-wave wav is in
    let read : form_of (chunk_at first) ≡ Ok form = form_of-plain (chunk_at first) form refl room refl refl frame named ranges in
    let known : form_after None (chunk_at first) ≡ Ok (Some form) = ap known_form read in
    let bytes : (chunk_at second).size ≡ 2 * length wav.samples =
    little_number-reads_back 4 (2 * length wav.samples) (sample_bytes wav.samples) (omega (arith, is.small)) in
    let filled : (chunk_at second).size ≡ length (chunk_at second).body = bytes ∙ sym (length-sample_bytes wav.samples) in
    let whole : (chunk_at second).size % (2 * form.channels) ≡ 0 =
    ap₂ (λ (n : ℕ) (f : Form). n % (2 * f.channels)) bytes same ∙ double-mod (length wav.samples) wav.channels is.channels.0
    ∙ ap (λ (n : ℕ). 2 * n) is.whole in
    parts_from-other None first long1 refl
    ∙ ap (λ r. go_on r (λ next. parts_from next (chunks_of second))) known
    ∙ parts_from-data (Some form) second long2 refl
    ∙ data_of-plain form (chunk_at second) filled (omega (arith, bytes, is.small)) whole

-- reading a written wave gives it back
pub wav_of-wav_bytes : (wav : Wav) → IsWave wav → samples_in (sample_bytes wav.samples) ≡ wav.samples → wav_of (wav_bytes wav) ≡ Ok wav
unfolding wav_of parts_of
wav_of-wav_bytes wav is samples =
    let size = length-wav_bytes wav in
    let form : Form = record { rate = wav.rate; channels = wav.channels } in
    let riff : is_riff (wav_bytes wav) ≡ true = riff_from (wav_bytes wav) (omega (arith, size)) refl refl in
    ap wave_of (if-true (is_riff (wav_bytes wav)) _ _ riff ∙ parts_from-written wav is form refl)
    ∙ ap (λ (s : List ℤ). let w : Wav = record { rate = wav.rate; channels = wav.channels; samples = s } in Ok w) samples

-- one sample more is written
pub sample_written : (zs : List ℤ) (to rest post : List ℕ) (i : ℕ) → 2 * i ≤ length to → i < length zs
    → take (2 * i) to ≡ sample_bytes (take i zs)
    → take (2 * (i + 1)) (take (2 * i) to ++ ((little_bytes 2 (cast_unsigned w16 (get_or zs i (pos 0))) ++ rest) ++ post))
    ≡ sample_bytes (take (i + 1) zs)
sample_written zs to rest post i room here before =
    let pair : List ℕ = little_bytes 2 (cast_unsigned w16 (get_or zs i (pos 0))) in
    let regrouped : take (2 * i) to ++ ((pair ++ rest) ++ post) ≡ (take (2 * i) to ++ pair) ++ (rest ++ post) =
    ap (λ (r : List ℕ). take (2 * i) to ++ r) (append_assoc pair rest post) ∙ sym (append_assoc (take (2 * i) to) pair (rest ++ post)) in
    let long : length (take (2 * i) to ++ pair) ≡ 2 * (i + 1) =
    omega (arith, length-append (take (2 * i) to) pair, length-take-le (2 * i) to room) in
    ap (take (2 * (i + 1))) regrouped ∙ take_at (take (2 * i) to ++ pair) (rest ++ post) (2 * (i + 1)) long
    ∙ ap (λ (r : List ℕ). r ++ pair) before
    ∙ sym (ap sample_bytes (take_more zs i (pos 0) here)
    ∙ flat_map-append (λ (s : ℤ). little_bytes 2 (cast_unsigned w16 s)) (take i zs) (get_or zs i (pos 0) ∷ [])
    ∙ ap (λ (r : List ℕ). sample_bytes (take i zs) ++ r) (append-nil pair))
