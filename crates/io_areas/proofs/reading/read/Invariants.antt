use Rattle.std.proofs.Common.{◌≡◌, ◌*◌, ◌<◌, length}
use Rattle.board_rule.specs.Layout.{layout_of}
use Rattle.board_rule.specs.buffers.SampleWords.{IsTable}
use Rattle.board_rule.specs.buffers.ReaderSteps.{samples_read}
use Rattle.io_areas.proofs.SampleWordsLemmas.{IsReadTo}
use Rattle.io_areas.proofs.ReadingLemmas.{loaded_to}
use Rattle.io_areas.proofs.reading.read.Given as goal

abbrev pub invariant-loop-place : goal.invariant-loop-place
invariant-loop-place g l = record {
  table : g.S.BoardSeat.table l.seat ≡ g.S.BoardSeat.table l.fn.seat;
  knows : g.S.BoardSeat.knows l.seat ≡ loaded_to (g.S.BoardSeat.knows l.fn.seat) l.link l.place;
  long : length l.to ≡ length l.fn.to;
  so_far : IsReadTo (samples_read g.S.BoardSeat.is_driver (layout_of l.board.board_shape) (g.S.BoardSeat.knows l.fn.seat) l.link) (4 * l.place) l.to;
  fits : 0 < l.place → IsTable (layout_of l.board.board_shape) (g.S.BoardSeat.knows l.fn.seat).expect;
}
