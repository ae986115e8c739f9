-- The wave, and then the node of its source.
use Rattle.std.proofs.Common.{◌≡◌, ℕ, length, subst}
use Rattle.wav_files.specs.WavReading.{wav_of}
use Rattle.pw_top.specs.Allowed.{Reads}
use Rattle.pw_top.specs.working.Ending.{Ends}
use Rattle.pw_top.specs.Refusals.{wave_outcome}
use Rattle.pw_top.specs.Loads.{TakesWave}
use Rattle.pw_top.proofs.AllowedLemmas.{binds_goes}
use Rattle.pw_top.proofs.loads.source_loaded.Goals as goal

pub returns-in-Ok-clause-done : goal.returns-in-Ok-clause-done
returns-in-Ok-clause-done c =
    binds_goes (Reads (λ outcome. outcome ≡ wave_outcome c.args.place (wav_of c.args.bytes.now)))
    (TakesWave c.args.node c.args.inputs (length c.args.bytes.now)) c.in-Ok.wav c.take_wave.result c.in-Ok.ensures.told
    (subst (λ (n : ℕ). Ends (TakesWave c.args.node c.args.inputs n c.in-Ok.wav) c.take_wave.result) c.len.ensures c.take_wave.ensures.done)
