use Rattle.std.proofs.Common.{false, ◌≡◌}
use Rattle.board_rule.specs.Layout.{layout_of}
use Rattle.board_rule.specs.buffers.BlockSteps.{readers_stored}
use Rattle.board_rule.proofs.loop_seat.LoopSeat.store_readers.Given as goal

abbrev pub ghosts-store_readers : goal.ghosts-store_readers
ghosts-store_readers a = record {
  is_driver = false;
  after = λ _. readers_stored (layout_of a.board.now.board_shape) a.token.now.me.0 a.pool a.id;
  says = λ n. n ≡ n;
}
