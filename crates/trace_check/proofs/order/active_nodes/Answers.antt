use Rattle.std.proofs.Common.{◌<◌, Contains, arith, [], subst}
use Rattle.trace_check.specs.working.NodeSets.{Gains}
use Rattle.trace_check.proofs.OrderLemmas.{empty_set, node_more}
use Rattle.trace_check.proofs.order.active_nodes.Goals as goal

pub loop-n-init : goal.loop-n-init
loop-n-init c = empty_set (Contains []) (λ n h. let lt : h.0 < 0 = h.1 in absurd (omega arith))

pub loop-n-preserved : goal.loop-n-preserved
loop-n-preserved c = node_more c.args.nodes.now c.loop-n.n-index c.n-item.result c.loop-n.set c.with-set.result c.loop-n-test.true
    c.loop-n.invariant (subst (λ x. Gains c.loop-n.set x.node c.with-set.result) c.n-item.is c.with-set.ensures)
