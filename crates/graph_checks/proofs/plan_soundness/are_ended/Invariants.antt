use Rattle.std.proofs.Common.{take}
use Rattle.std.specs.Prelude.{All}
use Rattle.graph_checks.specs.working.FormChecks.{IsEnded}
use Rattle.graph_checks.proofs.plan_soundness.are_ended.Given as goal

abbrev pub invariant-loop-form : goal.invariant-loop-form
invariant-loop-form l = All (IsEnded l.plan) (take l.form-index l.forms)
