-- What the links so far leave.
use Rattle.link_negotiation.specs.working.Searching.{IsOutgoing}
use Rattle.link_negotiation.proofs.outgoing.Outgoing.of.Given as goal

abbrev pub invariant-loop-at : goal.invariant-loop-at
invariant-loop-at l = IsOutgoing l.links l.at l.outgoing
