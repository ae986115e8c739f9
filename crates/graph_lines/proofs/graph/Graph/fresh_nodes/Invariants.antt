-- The fresh nodes among those so far.
use Rattle.graph_lines.specs.Gathering.{HasFreshBelow}
use Rattle.graph_lines.proofs.graph.Graph.fresh_nodes.Given as goal

abbrev pub invariant-loop-node : goal.invariant-loop-node
invariant-loop-node l = HasFreshBelow l.self l.node l.fresh
