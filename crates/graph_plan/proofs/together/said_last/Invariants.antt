-- No part so far has both nodes.
use Rattle.std.proofs.Common.{◌≡◌, drop}
use Rattle.std.specs.Prelude.{find}
use Rattle.graph_plan.specs.Together.{has_both}
use Rattle.graph_plan.proofs.together.said_last.Given as goal

abbrev pub invariant-loop-member : goal.invariant-loop-member
invariant-loop-member l = find (has_both l.a l.b) (drop l.member-index l.members) ≡ find (has_both l.a l.b) l.members
