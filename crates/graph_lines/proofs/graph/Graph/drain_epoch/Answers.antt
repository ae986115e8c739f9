use Rattle.graph_lines.proofs.UpcomingLemmas.{drain_epoch_is}
use Rattle.graph_lines.proofs.graph.Graph.drain_epoch.Goals as goal

pub returns : goal.returns
returns c = drain_epoch_is c.args.waves.now c.args.self.now c.in_ok-cycles.cycles c.epoch_for.result c.in_ok-cycles.ensures c.epoch_for.ensures
