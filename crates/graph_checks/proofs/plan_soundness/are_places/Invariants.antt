use Rattle.std.proofs.Common.{take}
use Rattle.std.specs.Prelude.{All}
use Rattle.graph_checks.specs.working.FormChecks.{IsPlace}
use Rattle.graph_checks.proofs.plan_soundness.are_places.Given as goal

abbrev pub invariant-loop-n : goal.invariant-loop-n
invariant-loop-n l = All (IsPlace l.plan) (take l.n-index l.nodes)
