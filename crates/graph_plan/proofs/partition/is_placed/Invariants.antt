-- No part so far has the node.
use Rattle.std.proofs.Common.{◌≡◌, false, take}
use Rattle.std.specs.Prelude.{All}
use Rattle.graph_plan.specs.Parts.{is_among}
use Rattle.graph_plan.proofs.partition.is_placed.Given as goal

abbrev pub invariant-loop-part : goal.invariant-loop-part
invariant-loop-part l = All (λ p. is_among p l.node ≡ false) (take l.part-index l.parts)
