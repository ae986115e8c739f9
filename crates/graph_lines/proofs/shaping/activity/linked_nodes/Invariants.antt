-- The built-in driver and the nodes of the links so far are in.
use Rattle.graph_lines.proofs.ActivityLemmas.{IsLinked}
use Rattle.graph_lines.proofs.shaping.activity.linked_nodes.Given as goal

abbrev pub invariant-loop-wire : goal.invariant-loop-wire
invariant-loop-wire l = IsLinked l.live l.here l.wire-index
