use Rattle.trace_check.proofs.NodeSetsLemmas.{loses}
use Rattle.trace_check.proofs.node_sets.without.Goals as goal

pub returns : goal.returns
returns c = loses c.args.set c.args.node c.requires
