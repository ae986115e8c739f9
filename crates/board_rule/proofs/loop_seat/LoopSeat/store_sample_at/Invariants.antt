use Rattle.std.proofs.Common.{false, ◌≡◌}
use Rattle.board_rule.specs.Layout.{layout_of}
use Rattle.board_rule.specs.buffers.BlockSteps.{sample_stored}
use Rattle.board_rule.proofs.loop_seat.LoopSeat.store_sample_at.Given as goal

abbrev pub ghosts-store_sample : goal.ghosts-store_sample
ghosts-store_sample a = record {
  is_driver = false;
  after = λ _. sample_stored (layout_of a.board.now.board_shape) a.token.now.me.0 a.pool a.id a.place;
  says = λ n. n ≡ n;
}
