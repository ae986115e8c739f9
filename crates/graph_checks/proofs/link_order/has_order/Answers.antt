use Rattle.std.proofs.Common.{refl, length-set}
use Rattle.pw_graph.proofs.OrderLemmas.{starts, places, ends, none_left}
use Rattle.graph_checks.proofs.link_order.has_order.Goals as goal

pub loop-n-init : goal.loop-n-init
loop-n-init c = record { placed = starts c.args.links.now c.requires; long = refl }

pub loop-n-preserved : goal.loop-n-preserved
loop-n-preserved c = record {
  placed = places c.args.links.now c.loop-n.left c.in-Some.n c.loop-n.invariant.long c.requires c.in-Some.ensures.free
      c.loop-n.invariant.placed;
  long = simp length-set c.loop-n.invariant.long;
}

pub returns : goal.returns
returns c = (
  λ t. ends c.args.links.now c.loop-n.left c.loop-n.invariant.placed (c.is_none_left.ensures.0 t),
  λ h. c.is_none_left.ensures.1 (none_left c.args.links.now c.loop-n.left c.loop-n.invariant.long c.requires h c.in_default.ensures.free),
)
