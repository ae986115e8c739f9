use Rattle.std.proofs.Common.{ℕ, ◌<◌}
use Rattle.graph_checks.specs.working.FreshChecks.{AgreesIn, IsNamed}
use Rattle.graph_checks.proofs.plan_kept.keeps_form.Given as goal

abbrev pub invariant-loop-j : goal.invariant-loop-j
invariant-loop-j l = record {
  stays : (k : ℕ) → l.fn.i < k → k < l.j → ¬ IsNamed l.plan k l.a.port.node;
  same : (k : ℕ) → l.fn.i < k → k < l.j → AgreesIn l.plan k l.a;
}
