use Rattle.std.proofs.Common.{◌≡◌}
use Rattle.board_rule.specs.Layout.{layout_of}
use Rattle.activation_words.specs.working.Checks.{IsLooking}
use Rattle.activation_words.proofs.late_check.look_at_all.Given as goal

abbrev pub invariant-loop-at : goal.invariant-loop-at
invariant-loop-at l = (l.seat.table ≡ l.fn.seat.table) × IsLooking (layout_of l.board.board_shape) l.fn.seat.knows l.at l.late l.seat.knows
