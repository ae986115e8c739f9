use Rattle.std.proofs.Common.{◌≡◌, ◌-◌, ◌<◌, take, slice_index}
use Rattle.board_rule.specs.Layout.{layout_of}
use Rattle.io_areas.specs.Writing.{number_given}
use Rattle.io_areas.specs.working.OutputSteps.{AreMade, IsLoadedNow}
use Rattle.io_areas.proofs.output_turn.load_all.Given as goal

abbrev pub invariant-loop-link : goal.invariant-loop-link
invariant-loop-link l = record {
  table : l.seat.table ≡ l.fn.seat.table;
  ends : AreMade (IsLoadedNow (layout_of l.board.board_shape) l.fn.seat.knows) l.fn.seat.knows (take l.link-index l.links) l.seat.knows;
  given : 0 < l.link-index → l.given ≡ number_given (layout_of l.board.board_shape) l.fn.seat.knows (slice_index l.links (l.link-index - 1));
}
