-- Nothing leaves any node.
use Rattle.link_negotiation.proofs.OutgoingLemmas.{outgoing_none}
use Rattle.link_negotiation.proofs.outgoing.Outgoing.none.Goals as goal

pub returns : goal.returns
returns c = λ s. outgoing_none s
