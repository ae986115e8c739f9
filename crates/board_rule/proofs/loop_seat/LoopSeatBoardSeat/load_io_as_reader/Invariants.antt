use Rattle.std.proofs.Common.{false}
use Rattle.board_rule.specs.Layout.{layout_of}
use Rattle.board_rule.specs.buffers.ReaderSteps.{loaded_as_reader, IsPublished}
use Rattle.board_rule.proofs.loop_seat.LoopSeatBoardSeat.load_io_as_reader.Given as goal

abbrev pub ghosts-load_area : goal.ghosts-load_area
ghosts-load_area a = record {
  is_driver = false;
  after = loaded_as_reader false (layout_of a.board.now.board_shape) a.token.now.me.0 a.link;
  says = λ found. IsPublished false (layout_of a.board.now.board_shape) a.token.now.me.0 a.link found;
}
