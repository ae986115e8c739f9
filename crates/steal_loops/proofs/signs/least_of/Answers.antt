use Rattle.std.proofs.Common.{arith}
use Rattle.ready_queues.proofs.NodeBitsLemmas.{lowest_some, lowest_none}
use Rattle.steal_loops.proofs.signs.least_of.Goals as goal

pub returns-then-node-lt64-clause-some : goal.returns-then-node-lt64-clause-some
returns-then-node-lt64-clause-some c = let least = lowest_some c.args.set 64 c.ranges.set.fits (omega arith) c.if-node-lt64.true in (least.0, least.1)

pub returns-else-node-lt64-clause-none : goal.returns-else-node-lt64-clause-none
returns-else-node-lt64-clause-none c = lowest_none c.args.set 64 c.ranges.set.fits c.if-node-lt64.false
