-- The forms of the nodes so far.
use Rattle.graph_lines.specs.Gathering.{HasFormsBefore}
use Rattle.graph_lines.proofs.graph.Graph.forms_of.Given as goal

abbrev pub invariant-loop-node : goal.invariant-loop-node
invariant-loop-node l = HasFormsBefore l.self.ports l.here (record { node = l.node; port = 0 }) l.forms
