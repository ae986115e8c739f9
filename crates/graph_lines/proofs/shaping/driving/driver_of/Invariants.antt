-- The best of the nodes so far.
use Rattle.graph_lines.specs.Searching.{IsBest}
use Rattle.graph_lines.proofs.shaping.driving.driver_of.Given as goal

abbrev pub invariant-loop-node : goal.invariant-loop-node
invariant-loop-node l = IsBest l.kinds l.nodes l.node l.best
