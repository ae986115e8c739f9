use Rattle.std.proofs.Common.{false, ◌≡◌}
use Rattle.board_rule.specs.buffers.SampleWords.{IsTable, packed}
use Rattle.board_rule.specs.Layout.{layout_of}
use Rattle.board_rule.specs.buffers.ReaderSteps.{sample_loaded, samples_read}
use Rattle.board_rule.proofs.loop_seat.LoopSeatBoardSeat.load_sample_at.Given as goal

abbrev pub ghosts-load_sample : goal.ghosts-load_sample
ghosts-load_sample a = record {
  is_driver = false;
  after = λ _. sample_loaded false (layout_of a.board.now.board_shape) a.token.now.me.0 a.link a.place;
  says = λ found. (found ≡ packed (samples_read false (layout_of a.board.now.board_shape) a.token.now.me.0 a.link) a.place)
      × IsTable (layout_of a.board.now.board_shape) a.token.now.me.0.expect;
}
