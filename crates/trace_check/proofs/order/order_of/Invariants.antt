use Rattle.std.proofs.Common.{◌≡◌, ℕ, ◌<◌, length, get_or}
use Rattle.pw_graph.specs.Dependencies.{Precedes}
use Rattle.trace_check.specs.working.Admitting.{IsSetOf}
use Rattle.trace_check.proofs.order.order_of.Given as goal

abbrev pub invariant-loop-n : goal.invariant-loop-n
invariant-loop-n l = record {
  long : length l.before ≡ l.n;
  rows : (k : ℕ) → k < l.n → IsSetOf (get_or l.before k 0) (λ m. Precedes l.fn.shape m k);
}
