use Rattle.std.proofs.Common.{Contains, map, take}
use Rattle.trace_check.specs.working.Admitting.{IsSetOf}
use Rattle.trace_check.proofs.order.active_nodes.Given as goal

abbrev pub invariant-loop-n : goal.invariant-loop-n
invariant-loop-n l = IsSetOf l.set (λ n. Contains (map (λ m. m.node) (take l.n-index l.nodes)) n)
