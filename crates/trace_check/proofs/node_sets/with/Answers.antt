use Rattle.trace_check.proofs.NodeSetsLemmas.{gains}
use Rattle.trace_check.proofs.node_sets.with.Goals as goal

pub returns : goal.returns
returns c = gains c.args.set c.args.node c.requires
