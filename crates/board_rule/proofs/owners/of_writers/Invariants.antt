use Rattle.std.proofs.Common.{◌≡◌, map, take}
use Rattle.board_rule.specs.Layout.{layout_of}
use Rattle.board_rule.specs.start.Owners.{seat_with}
use Rattle.board_rule.proofs.owners.of_writers.Given as goal

abbrev pub invariant-loop-link : goal.invariant-loop-link
invariant-loop-link l = l.row ≡ map (λ x. seat_with (layout_of l.board_shape) x.from.node) (take l.link-index l.link-items)
