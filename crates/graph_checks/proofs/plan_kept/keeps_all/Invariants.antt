use Rattle.std.proofs.Common.{ℕ, ◌<◌}
use Rattle.graph_checks.specs.working.FreshChecks.{KeepsEpoch}
use Rattle.graph_checks.proofs.plan_kept.keeps_all.Given as goal

abbrev pub invariant-loop-i : goal.invariant-loop-i
invariant-loop-i l = (k : ℕ) → k < l.i → KeepsEpoch l.plan k
