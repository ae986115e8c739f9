use Rattle.std.proofs.Common.{◌≡◌, ◌∙◌, ℕ, ◌*◌, ◌-◌, drop, length, take, get_or, pos, ap, sym, FitsSigned, w16, rules, arith, take_all}
use Rattle.std.proofs.Common.{below_more, to_z-of_z}
use Rattle.wav_files.specs.WavReading.{samples_in}
use Rattle.wav_files.specs.WavWriting.{sample_bytes}
use Rattle.wav_files.proofs.WavReadingLemmas.{samples_in-sample_bytes, sample_written}
use Rattle.wav_files.proofs.writing.fill_samples.Goals as goal

pub loop-i-preserved : goal.loop-i-preserved
loop-i-preserved c =
    let fit : FitsSigned w16 (get_or c.args.samples.now c.loop-i.i (pos 0)) = search rules in
    let size : ℕ = length c.loop-i.to - 2 * c.loop-i.i in (
      rw (c.write_i16.ensures, to_z-of_z fit) (sample_written c.args.samples.now c.loop-i.to
          (drop 2 (take size (drop (2 * c.loop-i.i) c.loop-i.to))) (drop size (drop (2 * c.loop-i.i) c.loop-i.to)) c.loop-i.i (omega arith)
          (omega arith) c.loop-i.invariant.0),
      below_more _ _ c.loop-i.invariant.1 fit,
    )

pub returns : goal.returns
returns c =
    let all : take c.loop-i.i c.args.samples.now ≡ c.args.samples.now = take_all _ _ (omega arith) in
    let written : c.loop-i.to ≡ sample_bytes c.args.samples.now =
    sym (take_all (2 * c.loop-i.i) c.loop-i.to (omega arith)) ∙ c.loop-i.invariant.0 ∙ ap sample_bytes all in
    record {
      bytes = written;
      read_back = ap samples_in written ∙ samples_in-sample_bytes c.args.samples.now (λ k h. c.loop-i.invariant.1 k (omega arith));
    }
