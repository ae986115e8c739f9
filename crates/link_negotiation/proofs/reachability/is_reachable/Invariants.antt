-- The nodes that are taken are expanded, and a walk leads to each that is reached.
use Rattle.std.proofs.Common.{◌-◌}
use Rattle.link_negotiation.proofs.SearchingLemmas.{IsSearched}
use Rattle.link_negotiation.proofs.reachability.is_reachable.Given as goal

abbrev pub invariant-nodes : goal.invariant-nodes
invariant-nodes l = IsSearched l.links l.from l.taken l.reached

abbrev pub decreases-nodes : goal.decreases-nodes
decreases-nodes l = 64 - l.taken
