use Rattle.trace_check.proofs.NodeSetsLemmas.{difference_of}
use Rattle.trace_check.proofs.node_sets.difference.Goals as goal

pub returns : goal.returns
returns c = difference_of c.args.set c.args.other c.ranges.other.fits
