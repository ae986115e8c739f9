use Rattle.graph_lines.proofs.ActivityLemmas.{linked_begins, linked_more, linked_ends}
use Rattle.graph_lines.proofs.shaping.activity.linked_nodes.Goals as goal

pub loop-wire-init : goal.loop-wire-init
loop-wire-init c = linked_begins c.args.live.now c.only-here.result c.only-here.ensures

pub loop-wire-preserved : goal.loop-wire-preserved
loop-wire-preserved c = linked_more c.args.live.now c.loop-wire.here c.loop-wire.wire-index _ c.loop-wire-test.true
    (c.requires c.loop-wire.wire-index _ c.loop-wire-test.true) c.loop-wire.invariant

pub returns : goal.returns
returns c n = (
  c.loop-wire.invariant.only n,
  linked_ends c.args.live.now c.loop-wire.here c.loop-wire.wire-index c.loop-wire-test.false c.loop-wire.invariant n,
)
