-- No node is in the queue, and no node is reached.
use Rattle.link_negotiation.proofs.ReachedLemmas.{queue_none}
use Rattle.link_negotiation.proofs.reached.Reached.none.Goals as goal

pub returns-clause-queue : goal.returns-clause-queue
returns-clause-queue c = queue_none
