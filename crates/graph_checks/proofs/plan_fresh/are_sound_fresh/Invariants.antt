use Rattle.std.proofs.Common.{take}
use Rattle.std.specs.Prelude.{All}
use Rattle.pw_graph.specs.PlanFresh.{IsSoundFresh}
use Rattle.graph_checks.proofs.plan_fresh.are_sound_fresh.Given as goal

abbrev pub invariant-loop-fresh : goal.invariant-loop-fresh
invariant-loop-fresh l = All (IsSoundFresh l.plan) (take l.fresh-index l.list)
