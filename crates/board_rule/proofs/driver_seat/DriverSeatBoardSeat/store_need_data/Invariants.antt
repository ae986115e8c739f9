use Rattle.std.proofs.Common.{true, ◌≡◌}
use Rattle.board_rule.specs.Layout.{layout_of}
use Rattle.board_rule.specs.buffers.ReaderSteps.{need_stored}
use Rattle.board_rule.proofs.driver_seat.DriverSeatBoardSeat.store_need_data.Given as goal

abbrev pub ghosts-store_need : goal.ghosts-store_need
ghosts-store_need a = record {
  is_driver = true;
  after = λ _. need_stored true (layout_of a.board.now.board_shape) a.token.now.me.0 a.link;
  says = λ n. n ≡ n;
}
