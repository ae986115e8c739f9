use Rattle.std.proofs.Common.{take, IsTrue}
use Rattle.std.specs.List.{list_any}
use Rattle.pw_graph.specs.Dependencies.{joins}
use Rattle.trace_check.specs.working.Admitting.{IsSetOf}
use Rattle.trace_check.proofs.order.sources_of.Given as goal

abbrev pub invariant-loop-link : goal.invariant-loop-link
invariant-loop-link l = IsSetOf l.set (λ m. IsTrue (list_any (joins m l.node) (take l.link-index l.links)))
