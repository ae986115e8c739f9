-- A node more.
use Rattle.graph_plan.proofs.NodesOfLemmas.{nodes_more}
use Rattle.graph_plan.proofs.plan_nodes.nodes_of.Goals as goal

pub loop-node-preserved : goal.loop-node-preserved
loop-node-preserved c =
    let more = nodes_more c.args.names.now c.args.graph.now c.loop-node.nodes c.push.new.self c.in_ok-node_of.field-0 c.loop-node.node
    c.loop-node.invariant.count c.loop-node.invariant.each c.in_ok-node_of.ensures c.in_ok-push.ensures.ok in
    record { count = more.0; each = more.1 }
