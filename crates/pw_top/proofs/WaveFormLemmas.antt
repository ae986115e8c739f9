-- The wave of a file has a rate and channels in their ranges.
use Rattle.std.proofs.Common.{◌≡◌, ℕ, ◌≤◌, ◌==◌, ◌*◌, ◌%◌, ◌&&◌, Bool, true, false, List, [], ◌∷◌, drop, take, Option, Some, None, refl}
use Rattle.std.proofs.Common.{subst, rules}
use Rattle.std.specs.Prelude.{Result, Ok, Err, IfSome, not, nat_le, nat_lt, if◌then◌else◌}
use Rattle.std.proofs.lemmas.Bool.{and_parts, not-false}
use Rattle.wav_files.specs.declared.wav.Wav.{Wav}
use Rattle.wav_files.specs.declared.fault.WavFault.{WavFault}
use Rattle.wav_files.specs.declared.fault.WavFault.TheVariants as F
use Rattle.wav_files.specs.Chunks.{Chunk, chunks_of, is_whole, is_format, is_data, is_riff}
use Rattle.wav_files.specs.FormatChunk.{IsForm, is_form, form_of, is_extensible, is_pcm16, named_form, block_align, whole_frames}
use Rattle.wav_files.specs.WavReading.{Parts, data_of, passed, known_form, form_after, go_on, parts_from, parts_of, wave_of, wav_of}

within : (a b : ℕ) → nat_le a b ≡ true → a ≤ b
within a b e = search (rules, e)

ranges : (form : _) → is_form form ≡ true → IsForm form
ranges form e =
    let a = and_parts (nat_le 1 form.rate && nat_le form.rate 384000 && nat_le 1 form.channels) (nat_le form.channels 8) e in
    let b = and_parts (nat_le 1 form.rate && nat_le form.rate 384000) (nat_le 1 form.channels) a.0 in
    let c = and_parts (nat_le 1 form.rate) (nat_le form.rate 384000) b.0 in
    (within 1 form.rate c.0, within form.rate 384000 c.1, within 1 form.channels b.1, within form.channels 8 a.1)

form_known : (chunk : Chunk) (form : _) → form_of chunk ≡ Ok form → IsForm form
unfolding form_of
form_known chunk form e =
    at (nat_lt chunk.size 16) (not (is_whole chunk)) (is_extensible chunk && nat_lt chunk.size 40) (not (is_pcm16 chunk))
    (not (is_form (named_form chunk))) (not (block_align chunk == 2 * (named_form chunk).channels))
    (λ in_range. ranges (named_form chunk) (not-false (is_form (named_form chunk)) in_range)) e
  where
    at : (a b c d f g : Bool) → (f ≡ false → IsForm (named_form chunk))
        → (if a then Err F.BadFmt else if b then Err F.Truncated else if c then Err F.BadFmt else if d then Err F.NotPcm16
        else if f then Err F.ChannelsOrRate else if g then Err F.BadFmt else Ok (named_form chunk)) ≡ Ok form → IsForm form
    at true b c d f g h e = cc
    at false true c d f g h e = cc
    at false false true d f g h e = cc
    at false false false true f g h e = cc
    at false false false false true g h e = cc
    at false false false false false true h e = cc
    at false false false false false false h e = let same : named_form chunk ≡ form = cc in subst IsForm same (h refl)

passed_known : (known next : Option _) (chunk : Chunk) → passed known chunk ≡ Ok next → known ≡ next
passed_known known next chunk e = at (is_whole chunk) e where
  at : (b : Bool) → (if b then Ok known else Err F.Truncated) ≡ Ok next → known ≡ next
  at true e = cc
  at false e = cc

after_known : (known next : Option _) (chunk : Chunk) → IfSome known IsForm → form_after known chunk ≡ Ok next → IfSome next IsForm
unfolding form_after
after_known (Some form) next chunk k e = subst (λ o. IfSome o IsForm) (passed_known (Some form) next chunk e) k
after_known None next chunk k e = at (is_format chunk) e where
  read : (r : Result _ WavFault) → form_of chunk ≡ r → known_form r ≡ Ok next → IfSome next IsForm
  read (Ok form) is e = let same : Some form ≡ next = cc in subst (λ o. IfSome o IsForm) same (form_known chunk form is)
  read (Err fault) is e = cc

  at : (b : Bool) → (if b then known_form (form_of chunk) else passed None chunk) ≡ Ok next → IfSome next IsForm
  at true e = read (form_of chunk) refl e
  at false e = subst (λ o. IfSome o IsForm) (passed_known None next chunk e) tt

data_known : (known : Option _) (chunk : Chunk) (parts : Parts) → IfSome known IsForm → data_of known chunk ≡ Ok parts → IsForm parts.0
unfolding data_of
data_known None chunk parts k e = cc
data_known (Some form) chunk parts k e =
    at (chunk.size == 4294967295) (not (is_whole chunk)) (not (chunk.size % (2 * form.channels) == 0)) e
  where
    at : (a b c : Bool) → (if a then Ok (form, whole_frames form chunk.body) else if b then Err F.Truncated
        else if c then Err F.Uneven else Ok (form, take chunk.size chunk.body)) ≡ Ok parts → IsForm parts.0
    at true b c e = let same : (form, whole_frames form chunk.body) ≡ parts = cc in subst (λ (p : Parts). IsForm p.0) same k
    at false true c e = cc
    at false false true e = cc
    at false false false e = let same : (form, take chunk.size chunk.body) ≡ parts = cc in subst (λ (p : Parts). IsForm p.0) same k

parts_known : (known : Option _) (chunks : List Chunk) (parts : Parts) → IfSome known IsForm → parts_from known chunks ≡ Ok parts
    → IsForm parts.0
unfolding parts_from
parts_known known [] parts k e = cc
parts_known known (chunk ∷ chunks) parts k e = at (is_data chunk) (λ next h. parts_known next chunks parts h) e where
  next_known : (r : Result (Option _) WavFault) → form_after known chunk ≡ r
      → ((next : Option _) → IfSome next IsForm → parts_from next chunks ≡ Ok parts → IsForm parts.0)
      → go_on r (λ next. parts_from next chunks) ≡ Ok parts → IsForm parts.0
  next_known (Ok next) is more e = more next (after_known known next chunk k is) e
  next_known (Err fault) is more e = cc

  at : (b : Bool) → ((next : Option _) → IfSome next IsForm → parts_from next chunks ≡ Ok parts → IsForm parts.0)
      → (if b then data_of known chunk else go_on (form_after known chunk) (λ next. parts_from next chunks)) ≡ Ok parts → IsForm parts.0
  at true more e = data_known known chunk parts k e
  at false more e = next_known (form_after known chunk) refl more e

pub wave_known : (bytes : List ℕ) (wav : Wav) → wav_of bytes ≡ Ok wav → IsForm (record { rate = wav.rate; channels = wav.channels })
unfolding wav_of parts_of
wave_known bytes wav e = at (parts_of bytes) refl e where
  all : (parts : Parts) (b : Bool) → (if b then parts_from None (chunks_of (drop 12 bytes)) else Err F.NotRiff) ≡ Ok parts → IsForm parts.0
  all parts true e = parts_known None (chunks_of (drop 12 bytes)) parts tt e
  all parts false e = cc

  at : (r : Result Parts WavFault) → parts_of bytes ≡ r → wave_of r ≡ Ok wav → IsForm (record { rate = wav.rate; channels = wav.channels })
  at (Ok parts) is e =
      let known = all parts (is_riff bytes) is in
      let rate : parts.0.rate ≡ wav.rate = cc in
      let channels : parts.0.channels ≡ wav.channels = cc in (
        subst (λ n. 1 ≤ n) rate known.0,
        subst (λ n. n ≤ 384000) rate known.1,
        subst (λ n. 1 ≤ n) channels known.2,
        subst (λ n. n ≤ 8) channels known.3,
      )
  at (Err fault) is e = cc
