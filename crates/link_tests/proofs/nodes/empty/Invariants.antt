-- No link is there.
use Rattle.std.proofs.Common.{◌≡◌, []}
use Rattle.link_tests.proofs.nodes.empty.Given as goal

abbrev pub invariant-loop-node : goal.invariant-loop-node
invariant-loop-node l = l.links.made ≡ []
