use Rattle.trace_check.proofs.NodeSetsLemmas.{first_outside_of}
use Rattle.trace_check.proofs.node_sets.first_outside.Goals as goal

pub returns : goal.returns
returns c = first_outside_of c.args.set c.args.other c.ranges.set.fits c.ranges.other.fits c.requires
