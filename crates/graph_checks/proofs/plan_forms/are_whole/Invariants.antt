use Rattle.std.proofs.Common.{take}
use Rattle.std.specs.Prelude.{All}
use Rattle.graph_checks.specs.working.FormChecks.{IsWhole}
use Rattle.graph_checks.proofs.plan_forms.are_whole.Given as goal

abbrev pub invariant-loop-n : goal.invariant-loop-n
invariant-loop-n l = All (IsWhole l.plan l.epoch) (take l.n-index l.nodes)
