use Rattle.std.proofs.Common.{true}
use Rattle.board_rule.specs.Layout.{layout_of}
use Rattle.board_rule.specs.buffers.ReaderSteps.{loaded_as_reader, IsPublished}
use Rattle.board_rule.proofs.driver_seat.DriverSeatBoardSeat.load_io_as_reader.Given as goal

abbrev pub ghosts-load_area : goal.ghosts-load_area
ghosts-load_area a = record {
  is_driver = true;
  after = loaded_as_reader true (layout_of a.board.now.board_shape) a.token.now.me.0 a.link;
  says = λ found. IsPublished true (layout_of a.board.now.board_shape) a.token.now.me.0 a.link found;
}
