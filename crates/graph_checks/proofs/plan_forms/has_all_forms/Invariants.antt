use Rattle.std.proofs.Common.{ℕ, ◌<◌}
use Rattle.graph_checks.specs.working.FormChecks.{HasSomeForm}
use Rattle.graph_checks.proofs.plan_forms.has_all_forms.Given as goal

abbrev pub invariant-loop-port : goal.invariant-loop-port
invariant-loop-port l = (k : ℕ) → k < l.port → HasSomeForm l.epoch (record { node = l.node; port = k })
