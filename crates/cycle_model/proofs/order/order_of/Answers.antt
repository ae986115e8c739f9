use Rattle.std.proofs.Common.{subst}
use Rattle.pw_graph.specs.LinkOrder.{IsStuck}
use Rattle.pw_graph.proofs.OrderLemmas.{none_left}
use Rattle.cycle_model.proofs.NodeOrderLemmas.{whole_end}
use Rattle.cycle_model.proofs.order.order_of.Goals as goal

pub returns-clause-whole : goal.returns-clause-whole
returns-clause-whole c =
    let stuck = subst (λ links. IsStuck links c.loop-n.left) c.as_slice-links.ensures c.in_default.ensures.free in
    whole_end c.args.epoch.now c.loop-n.order c.loop-n.left c.loop-n.invariant
    (none_left c.args.epoch.now.shape.links c.loop-n.left c.loop-n.invariant.long c.requires.within c.requires.order stuck)
    c.requires.nodes
