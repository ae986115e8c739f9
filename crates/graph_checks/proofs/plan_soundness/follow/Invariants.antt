use Rattle.std.proofs.Common.{drop, ◌↔◌}
use Rattle.pw_graph.specs.SoundPlan.{FollowFrom}
use Rattle.graph_checks.proofs.plan_soundness.follow.Given as goal

-- what is left has to follow from the next cycle
abbrev pub invariant-loop-epoch : goal.invariant-loop-epoch
invariant-loop-epoch l = FollowFrom 0 l.fn.epochs ↔ FollowFrom l.next (drop l.epoch-index l.epochs)
