use Rattle.std.proofs.Common.{false, ◌≡◌}
use Rattle.pw_graph.specs.Words.{io_id_in, need_data_word}
use Rattle.board_rule.specs.Layout.{layout_of}
use Rattle.board_rule.specs.buffers.WriterSteps.{loaded_as_writer, IsGivenBack}
use Rattle.board_rule.proofs.loop_seat.LoopSeat.load_io_as_writer.Given as goal

abbrev pub ghosts-load_area : goal.ghosts-load_area
ghosts-load_area a = record {
  is_driver = false;
  after = λ _. loaded_as_writer (layout_of a.board.now.board_shape) a.token.now.me.0 a.link;
  says = λ found. (found ≡ need_data_word (io_id_in found)) × IsGivenBack (layout_of a.board.now.board_shape) a.token.now.me.0 a.link (io_id_in found);
}
