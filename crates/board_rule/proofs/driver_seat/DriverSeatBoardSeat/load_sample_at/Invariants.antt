use Rattle.std.proofs.Common.{true, ◌≡◌}
use Rattle.board_rule.specs.buffers.SampleWords.{IsTable, packed}
use Rattle.board_rule.specs.Layout.{layout_of}
use Rattle.board_rule.specs.buffers.ReaderSteps.{sample_loaded, samples_read}
use Rattle.board_rule.proofs.driver_seat.DriverSeatBoardSeat.load_sample_at.Given as goal

abbrev pub ghosts-load_sample : goal.ghosts-load_sample
ghosts-load_sample a = record {
  is_driver = true;
  after = λ _. sample_loaded true (layout_of a.board.now.board_shape) a.token.now.me.0 a.link a.place;
  says = λ found. (found ≡ packed (samples_read true (layout_of a.board.now.board_shape) a.token.now.me.0 a.link) a.place)
      × IsTable (layout_of a.board.now.board_shape) a.token.now.me.0.expect;
}
