use Rattle.std.proofs.Common.{◌≡◌}
use Rattle.board_rule.specs.Layout.{layout_of, nodes}
use Rattle.board_rule.specs.Steps.{driven, reset_to}
use Rattle.activation_words.proofs.beginning.reset_all.Given as goal

abbrev pub invariant-loop-done : goal.invariant-loop-done
invariant-loop-done l = (l.seat.table ≡ l.fn.seat.table)
    × (l.seat.knows ≡ driven l.fn.seat.knows (reset_to (nodes (layout_of l.board.board_shape)) l.done) l.fn.seat.knows.trail)
