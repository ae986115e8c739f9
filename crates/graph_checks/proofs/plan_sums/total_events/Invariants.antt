use Rattle.std.proofs.Common.{◌≡◌, take}
use Rattle.std.specs.Prelude.{sum_by}
use Rattle.pw_graph.specs.PlanSums.{epoch_events, capped}
use Rattle.graph_checks.proofs.plan_sums.total_events.Given as goal

abbrev pub invariant-loop-epoch : goal.invariant-loop-epoch
invariant-loop-epoch l = l.total ≡ capped (sum_by epoch_events (take l.epoch-index l.epochs))
