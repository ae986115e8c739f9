-- The run, between the counts of the ticker.
use Rattle.std.proofs.Common.{sym, ap}
use Rattle.pw_outside.specs.declared.every.Every.{Every}
use Rattle.pw_program.proofs.AskingLemmas.{told_as}
use Rattle.pw_program.proofs.running.run_nth.Goals as goal

pub returns-clause-told : goal.returns-clause-told
returns-clause-told g c =
    told_as _ _ _ _ _ _ _ c.run_by-ran.result.status c.new-ticker.ensures
    (sym (ap (λ (e : Every). e.ticks) c.into_every.ensures.every))
    c.run_by-ran.ensures.told
