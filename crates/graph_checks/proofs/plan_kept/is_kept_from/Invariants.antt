use Rattle.std.proofs.Common.{ℕ, ◌<◌}
use Rattle.graph_checks.specs.working.FreshChecks.{IsNamed}
use Rattle.graph_checks.proofs.plan_kept.is_kept_from.Given as goal

abbrev pub invariant-loop-j : goal.invariant-loop-j
invariant-loop-j l = (k : ℕ) → l.fn.i < k → k < l.j → ¬ IsNamed l.plan k l.node
