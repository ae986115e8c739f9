use Rattle.ready_queues.proofs.NodeBitsLemmas.{lowest_some, lowest_none}
use Rattle.ready_queues.proofs.node_bits.first_below.Goals as goal

pub returns-then-node-end-clause-some : goal.returns-then-node-end-clause-some
returns-then-node-end-clause-some c = lowest_some c.args.set c.args.end c.ranges.set.fits c.requires.few c.if-node-end.true

pub returns-else-node-end-clause-none : goal.returns-else-node-end-clause-none
returns-else-node-end-clause-none c = lowest_none c.args.set c.args.end c.ranges.set.fits c.if-node-end.false
