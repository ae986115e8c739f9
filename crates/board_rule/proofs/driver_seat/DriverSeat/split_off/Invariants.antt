use Rattle.board_rule.specs.Layout.{layout_of}
use Rattle.board_rule.specs.View.{split_off, loop_view}
use Rattle.board_rule.proofs.driver_seat.DriverSeat.split_off.Given as goal

abbrev pub ghosts-split : goal.ghosts-split
ghosts-split g a = record {
  left = split_off g.E.Expect.expect a.token.now.me.0;
  right = loop_view (layout_of a.board.now.board_shape) g.E.Expect.expect a.token.now.me.0.split;
}
