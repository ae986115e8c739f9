use Rattle.std.proofs.Common.{false, ◌≡◌}
use Rattle.board_rule.specs.Layout.{layout_of}
use Rattle.board_rule.specs.buffers.WriterSteps.{have_stored}
use Rattle.board_rule.proofs.loop_seat.LoopSeat.store_have_data.Given as goal

abbrev pub ghosts-store_have : goal.ghosts-store_have
ghosts-store_have a = record {
  is_driver = false;
  after = λ _. have_stored (layout_of a.board.now.board_shape) a.token.now.me.0 a.link a.id;
  says = λ n. n ≡ n;
}
