use Rattle.std.proofs.Common.{◌≡◌, take}
use Rattle.board_rule.specs.Layout.{layout_of}
use Rattle.io_areas.specs.working.OutputSteps.{AreMade, IsPublishedNow}
use Rattle.io_areas.proofs.output_turn.publish_all.Given as goal

abbrev pub invariant-loop-link : goal.invariant-loop-link
invariant-loop-link l = record {
  table : l.seat.table ≡ l.fn.seat.table;
  ends : AreMade (IsPublishedNow (layout_of l.board.board_shape) l.fn.seat.knows l.fn.id) l.fn.seat.knows (take l.link-index l.links) l.seat.knows;
}
