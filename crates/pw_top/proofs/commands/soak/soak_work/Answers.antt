-- What the sinks keep can be written.
use Rattle.std.proofs.Common.{sym, subst}
use Rattle.std.specs.Prelude.{All}
use Rattle.wav_files.specs.declared.outcome.Outcome.{Outcome}
use Rattle.wav_files.specs.WavWriting.{IsWave}
use Rattle.cycle_model.proofs.KeptLemmas.{kept_is_wave}
use Rattle.pw_top.proofs.commands.soak.soak_work.Goals as goal

pub soak_line-requires-clause-waves : goal.soak_line-requires-clause-waves
soak_line-requires-clause-waves c = subst (λ (o : Outcome). All (λ kept. IsWave kept.wav) o.sinks) (sym c.requires.outcome)
    (kept_is_wave c.args.planned.now.plan c.args.planned.now.waves c.requires.planned.sound c.requires.planned.fit)
