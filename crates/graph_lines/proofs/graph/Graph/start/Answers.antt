use Rattle.graph_lines.proofs.RanLemmas.{started_ran}
use Rattle.graph_lines.proofs.StepLemmas.{started, few_made}
use Rattle.graph_lines.proofs.graph.Graph.start.Goals as goal

pub before-requires : goal.before-requires
before-requires c = few_made c.args.lines.now c.args.ports c.requires

pub returns-clause-sound : goal.returns-clause-sound
returns-clause-sound c = started c.args.lines.now c.args.ports c.before-2.result c.requires c.before-2.ensures

pub returns-clause-ran : goal.returns-clause-ran
returns-clause-ran c = started_ran c.args.lines.now c.args.ports c.before-2.result c.before-2.ensures
