use Rattle.std.proofs.Common.{false, ◌≡◌}
use Rattle.board_rule.specs.Layout.{layout_of}
use Rattle.board_rule.specs.buffers.ReclaimSteps.{FindsDue, readers_loaded}
use Rattle.board_rule.proofs.loop_seat.LoopSeat.load_readers.Given as goal

abbrev pub ghosts-load_readers : goal.ghosts-load_readers
ghosts-load_readers a = record {
  is_driver = false;
  after = readers_loaded (layout_of a.board.now.board_shape) a.token.now.me.0 a.pool a.id;
  says = λ n. (n ≡ 0) × FindsDue (layout_of a.board.now.board_shape) a.token.now.me.0 a.pool a.id;
}
