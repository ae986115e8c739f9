use Rattle.std.proofs.Common.{take}
use Rattle.std.specs.Prelude.{All}
use Rattle.graph_checks.specs.working.FreshChecks.{IsKeptForm}
use Rattle.graph_checks.proofs.plan_kept.are_kept_forms.Given as goal

abbrev pub invariant-loop-a : goal.invariant-loop-a
invariant-loop-a l = All (IsKeptForm l.plan l.i) (take l.a-index l.forms)
