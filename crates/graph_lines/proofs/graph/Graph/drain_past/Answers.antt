use Rattle.graph_lines.proofs.RehearsalLemmas.{drained_past}
use Rattle.graph_lines.proofs.graph.Graph.drain_past.Goals as goal

pub returns : goal.returns
returns c = drained_past c.args.waves.now c.args.self.now c.go_past.new.self c.in_ok-cycles.cycles c.go_past.result c.in_ok-cycles.ensures
    c.go_past.ensures
