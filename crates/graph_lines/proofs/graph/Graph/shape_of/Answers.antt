use Rattle.graph_lines.proofs.EpochLemmas.{shape_links_within, bare_few, shape_ok}
use Rattle.graph_lines.proofs.graph.Graph.shape_of.Goals as goal

pub counted-requires-clause-links : goal.counted-requires-clause-links
counted-requires-clause-links c = shape_links_within c.args.self.now c.args.active.now.here c.in_ok-links.links c.requires.sound c.in_ok-links.ensures

pub counted-requires-clause-few : goal.counted-requires-clause-few
counted-requires-clause-few c = bare_few c.args.active.now.here c.in_ok-nodes.nodes c.in_ok-nodes.ensures

pub returns-clause-shape : goal.returns-clause-shape
returns-clause-shape c = shape_ok c.args.self.now c.args.active.now c.args.cycles c.in_ok-nodes.nodes c.in_ok-links.links c.counted.result
    c.requires.active c.in_ok-links.ensures c.in_ok-nodes.ensures c.counted.ensures.same c.counted.ensures.numbers c.counted.ensures.counted
