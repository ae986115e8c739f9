-- The wave, and then what comes next.
use Rattle.std.proofs.Common.{◌≡◌}
use Rattle.pw_outside.specs.Files.{names_in}
use Rattle.wav_files.specs.WavReading.{wav_of}
use Rattle.pw_top.specs.Allowed.{Reads}
use Rattle.pw_top.specs.Refusals.{wave_outcome}
use Rattle.pw_top.specs.Automate.{LoadsPoints}
use Rattle.pw_top.proofs.AllowedLemmas.{binds_goes}
use Rattle.pw_top.proofs.commands.automate.wave_loaded.Goals as goal

pub returns-in-Ok-clause-told : goal.returns-in-Ok-clause-told
returns-in-Ok-clause-told g c = λ h.
    binds_goes (Reads (λ outcome. outcome ≡ wave_outcome 1 (wav_of c.args.bytes.now)))
    (LoadsPoints (names_in (g.F.Files.held c.args.files.now)) c.args.seq.now c.args.out) c.in-Ok.wav c.load_points.result
    c.in-Ok.ensures.told (c.load_points.ensures.told h)
