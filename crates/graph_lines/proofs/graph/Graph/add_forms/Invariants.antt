-- The forms of the ports so far.
use Rattle.graph_lines.specs.Gathering.{HasFormsBefore}
use Rattle.graph_lines.proofs.graph.Graph.add_forms.Given as goal

abbrev pub invariant-loop-port : goal.invariant-loop-port
invariant-loop-port l = HasFormsBefore l.self.ports l.here (record { node = l.node; port = l.port }) l.forms
