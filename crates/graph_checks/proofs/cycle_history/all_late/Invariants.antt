use Rattle.std.proofs.Common.{ℕ, ◌<◌}
use Rattle.std.specs.Prelude.{IsBitSet}
use Rattle.pw_graph.specs.History.{IsLate}
use Rattle.graph_checks.proofs.cycle_history.all_late.Given as goal

abbrev pub invariant-loop-n : goal.invariant-loop-n
invariant-loop-n l = (k : ℕ) → k < l.n → IsBitSet l.late k → IsLate l.shape l.events l.cycle k
