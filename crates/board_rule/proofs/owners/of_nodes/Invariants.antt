use Rattle.std.proofs.Common.{◌≡◌, map, take}
use Rattle.board_rule.specs.Layout.{layout_of}
use Rattle.board_rule.specs.start.Owners.{seat_with}
use Rattle.board_rule.proofs.owners.of_nodes.Given as goal

abbrev pub invariant-loop-n : goal.invariant-loop-n
invariant-loop-n l = l.row ≡ map (λ x. seat_with (layout_of l.board_shape) x.node) (take l.n-index l.n-items)
