-- The stored wave can be written.
use Rattle.std.proofs.Common.{subst, sym}
use Rattle.pw_top.specs.working.Ending.{IsDeliverable}
use Rattle.pw_top.proofs.AutomateLemmas.{automate_storable}
use Rattle.pw_top.proofs.commands.automate.automate_wave.Goals as goal

pub returns-in-Ok-clause-cause : goal.returns-in-Ok-clause-cause
returns-in-Ok-clause-cause c = subst IsDeliverable (sym c.in-Ok.ensures)
    (automate_storable c.args.out c.args.wav c.args.points c.requires.wave)
