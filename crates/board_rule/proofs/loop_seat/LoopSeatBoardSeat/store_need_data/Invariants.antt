use Rattle.std.proofs.Common.{false, ◌≡◌}
use Rattle.board_rule.specs.Layout.{layout_of}
use Rattle.board_rule.specs.buffers.ReaderSteps.{need_stored}
use Rattle.board_rule.proofs.loop_seat.LoopSeatBoardSeat.store_need_data.Given as goal

abbrev pub ghosts-store_need : goal.ghosts-store_need
ghosts-store_need a = record {
  is_driver = false;
  after = λ _. need_stored false (layout_of a.board.now.board_shape) a.token.now.me.0 a.link;
  says = λ n. n ≡ n;
}
