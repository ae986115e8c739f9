-- What the sinks of a sound plan keep can be written.
use Rattle.std.proofs.Common.{sym, subst, List}
use Rattle.std.specs.Prelude.{All}
use Rattle.wav_files.specs.declared.outcome.Kept.{Kept}
use Rattle.wav_files.specs.WavWriting.{IsWave}
use Rattle.cycle_model.specs.WavesFit.{WavesFit}
use Rattle.cycle_model.proofs.KeptLemmas.{kept_is_wave}
use Rattle.cycle_model.proofs.reference.render.Goals as goal

pub returns-clause-waves : goal.returns-clause-waves
returns-clause-waves c = λ sound.
    let waves = c.as_slice-waves.result.now in
    let fit = subst (WavesFit c.args.plan.now) (sym c.as_slice-waves.ensures) c.requires.renderable.sources in
    subst (λ (kept : List Kept). All (λ k. IsWave k.wav) kept) (sym c.in_ok-sinks.ensures)
    (kept_is_wave c.args.plan.now waves sound fit)
