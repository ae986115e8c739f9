use Rattle.graph_lines.proofs.EpochLemmas.{epoch_is}
use Rattle.graph_lines.proofs.graph.Graph.epoch_of.Goals as goal

pub returns : goal.returns
returns c = epoch_is c.args.self.now c.in_ok-active.active c.args.cycles c.in_ok-shape.shape c.in_ok-forms.forms c.in_ok-fresh.fresh
    c.in_ok-active.ensures c.in_ok-shape.ensures.shape c.in_ok-shape.ensures.numbers c.in_ok-forms.ensures c.in_ok-fresh.ensures
