-- A node that is new is put at the end of the queue; one that is reached already changes nothing.
use Rattle.link_negotiation.proofs.ReachedLemmas.{queue_more}
use Rattle.link_negotiation.proofs.reached.Reached.reach.Goals as goal

pub returns-then-not-self-node-clause-queue : goal.returns-then-not-self-node-clause-queue
returns-then-not-self-node-clause-queue c = queue_more c.args.self.now c.args.node c.requires.node c.if-not-self-node.true c.requires.queue
