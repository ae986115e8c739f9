use Rattle.std.proofs.Common.{◌≡◌}
use Rattle.board_rule.specs.Layout.{layout_of}
use Rattle.io_areas.proofs.FillLemmas.{filling}
use Rattle.io_areas.proofs.writing.fill.Given as goal

abbrev pub invariant-loop-place : goal.invariant-loop-place
invariant-loop-place l = (l.seat.table ≡ l.fn.seat.table)
    × (l.seat.knows ≡ filling (layout_of l.board.board_shape) (l.fn.seat.knows) l.pool l.id l.place)
