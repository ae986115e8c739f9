use Rattle.std.proofs.Common.{true, ◌<◌}
use Rattle.board_rule.specs.Layout.{layout_of}
use Rattle.board_rule.specs.buffers.ReaderSteps.{readers_lowered}
use Rattle.board_rule.proofs.driver_seat.DriverSeatBoardSeat.lower_readers.Given as goal

abbrev pub ghosts-lower_readers : goal.ghosts-lower_readers
ghosts-lower_readers a = record {
  is_driver = true;
  after = λ _. readers_lowered true (layout_of a.board.now.board_shape) a.token.now.me.0 a.link;
  says = λ found. 0 < found;
}
