-- What is passed does not join the two ports, and nothing else was taken out.
use Rattle.std.proofs.Common.{◌-◌, length}
use Rattle.link_negotiation.proofs.UnlinkLemmas.{IsTaken}
use Rattle.link_negotiation.proofs.unlinking.remove.Given as goal

abbrev pub invariant-links : goal.invariant-links
invariant-links l = IsTaken l.from l.to l.fn.made.items l.made.items l.at

abbrev pub decreases-links : goal.decreases-links
decreases-links l = length l.made.items - l.at
