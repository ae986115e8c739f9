-- The links that are looked at lead to what is reached.
use Rattle.link_negotiation.proofs.SearchingLemmas.{IsExpanding}
use Rattle.link_negotiation.proofs.reachability.expand.Given as goal

abbrev pub invariant-links : goal.invariant-links
invariant-links l = IsExpanding l.links l.node l.at l.fn.reached l.reached

abbrev pub decreases-links : goal.decreases-links
decreases-links l = l.at
