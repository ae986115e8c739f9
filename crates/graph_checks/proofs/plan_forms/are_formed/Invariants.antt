use Rattle.std.proofs.Common.{take}
use Rattle.std.specs.Prelude.{All}
use Rattle.pw_graph.specs.PlanForms.{IsFormed}
use Rattle.graph_checks.proofs.plan_forms.are_formed.Given as goal

abbrev pub invariant-loop-link : goal.invariant-loop-link
invariant-loop-link l = All (IsFormed l.plan l.epoch) (take l.link-index l.links)
