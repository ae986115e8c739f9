use Rattle.std.proofs.Common.{◌∙◌, ◌*◌, ◌++◌, List, ℕ, ℤ, length, ap, sym, append_assoc}
use Rattle.wav_files.specs.WavReading.{samples_in}
use Rattle.wav_files.specs.WavWriting.{sample_bytes, wav_header}
use Rattle.wav_files.proofs.WavReadingLemmas.{wav_of-wav_bytes}
use Rattle.wav_files.proofs.writing.append_wave.Goals as goal

pub returns-clause-ok : goal.returns-clause-ok
returns-clause-ok c =
    let wav = c.args.wav.now in
    let header : List ℕ = wav_header wav.rate wav.channels (2 * length wav.samples) in
    c.append_samples.ensures.bytes ∙ ap (λ (zs : List ℤ). c.append_header.new.to.items ++ sample_bytes zs) c.as_slice.ensures
    ∙ ap (λ (xs : List ℕ). xs ++ sample_bytes wav.samples) (c.append_header.ensures.bytes
    ∙ ap (λ (xs : List ℕ). xs ++ header) c.reserve.ensures.items)
    ∙ append_assoc c.args.to.now.items header (sample_bytes wav.samples)

pub returns-clause-read_back : goal.returns-clause-read_back
returns-clause-read_back c =
    wav_of-wav_bytes c.args.wav.now c.requires (sym (ap (λ (zs : List ℤ). samples_in (sample_bytes zs)) c.as_slice.ensures)
    ∙ c.append_samples.ensures.read_back ∙ c.as_slice.ensures)
