use Rattle.std.proofs.Common.{◌≡◌, ◌%◌, length, ◌∙◌, ap, arith}
use Rattle.wav_files.specs.WavReading.{samples_in}
use Rattle.wav_files.proofs.WavReadingLemmas.{length-samples_in, whole_samples, whole-even}
use Rattle.wav_files.proofs.reading.read_wav.Goals as goal

pub returns-in-Ok-samples_of-clause-wave : goal.returns-in-Ok-samples_of-clause-wave
returns-in-Ok-samples_of-clause-wave c = λ small.
    let form = c.in-Ok.ensures.form in
    let even = whole-even (length c.in-Ok.data.now) c.in-Ok.form.channels form.2 c.in-Ok.ensures.whole in
    let same : length c.in-Ok-samples_of.samples ≡ length (samples_in c.in-Ok.data.now) = ap length c.in-Ok-samples_of.ensures in
    let count = length-samples_in c.in-Ok.data.now in
    let short = c.in-Ok.ensures.small in
    record {
      rate = (form.0, form.1);
      channels = (form.2, form.3);
      whole = ap (λ n. n % c.in-Ok.form.channels) same
          ∙ whole_samples c.in-Ok.data.now c.in-Ok.form.channels form.2 c.in-Ok.ensures.whole even;
      small = omega (arith, same, count, short, small);
    }
