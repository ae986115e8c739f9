use Rattle.std.proofs.Common.{ℕ, ◌<◌, get_or}
use Rattle.pw_graph.specs.declared.plan.Fresh.{Fresh}
use Rattle.graph_checks.proofs.plan_fresh.fresh_ascend.Given as goal

abbrev pub invariant-loop-i : goal.invariant-loop-i
invariant-loop-i l = (j k : ℕ) (d : Fresh) → j < k → k < l.i → (get_or l.list j d).node < (get_or l.list k d).node
