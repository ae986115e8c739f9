use Rattle.std.specs.Prelude.{count_by}
use Rattle.cycle_model.proofs.NodeOrderLemmas.{IsMarked}
use Rattle.cycle_model.proofs.order.order_of.Given as goal

abbrev pub invariant-loop-n : goal.invariant-loop-n
invariant-loop-n l = IsMarked l.epoch l.order l.left

abbrev pub decreases-loop-n : goal.decreases-loop-n
decreases-loop-n l = count_by (λ here. here) l.left
