use Rattle.graph_lines.proofs.AfterLemmas.{drained}
use Rattle.graph_lines.proofs.graph.Graph.drain.Goals as goal

pub returns : goal.returns
returns c = drained c.args.waves.now c.args.self.now c.run_for.new.self c.in_ok-cycles.cycles c.run_for.result c.in_ok-cycles.ensures c.run_for.ensures
