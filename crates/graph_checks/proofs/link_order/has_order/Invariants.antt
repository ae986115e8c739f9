use Rattle.std.proofs.Common.{◌≡◌, length}
use Rattle.std.specs.Prelude.{count_by}
use Rattle.pw_graph.proofs.OrderLemmas.{IsPlaced}
use Rattle.graph_checks.proofs.link_order.has_order.Given as goal

abbrev pub invariant-loop-n : goal.invariant-loop-n
invariant-loop-n l = record { placed : IsPlaced l.links l.left; long : length l.left ≡ 64 }

abbrev pub decreases-loop-n : goal.decreases-loop-n
decreases-loop-n l = count_by (λ here. here) l.left
