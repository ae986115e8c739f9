use Rattle.std.proofs.Common.{◌≡◌, take, length}
use Rattle.std.specs.Prelude.{All, fold}
use Rattle.pw_lists.specs.Samples.{summed}
use Rattle.s16_mixer.specs.Ranges.{IsWithin}
use Rattle.board_rule.specs.Layout.{layout_of}
use Rattle.data_loop.specs.working.ReadingInputs.{AreRead}
use Rattle.data_loop.specs.working.Inputs.{links_of, first_rows, second_rows}
use Rattle.data_loop.proofs.inputs.read_inputs.Given as goal

abbrev pub invariant-loop-k : goal.invariant-loop-k
invariant-loop-k g l = record {
  end : l.k-end ≡ length l.inputs;
  table : g.S.BoardSeat.table l.seat ≡ g.S.BoardSeat.table l.fn.seat;
  read : AreRead g.S.BoardSeat.is_driver (layout_of l.board.board_shape) (g.S.BoardSeat.knows l.fn.seat) (take l.k (links_of l.inputs))
      (g.S.BoardSeat.knows l.seat);
  row : length l.row ≡ length l.fn.row;
  long_a : length l.a ≡ length l.fn.a;
  long_b : length l.b ≡ length l.fn.b;
  within_a : All (IsWithin l.k) l.a;
  within_b : All (IsWithin l.k) l.b;
  sum_a : l.a ≡ fold summed l.fn.a (first_rows g.S.BoardSeat.is_driver (layout_of l.board.board_shape) (g.S.BoardSeat.knows l.fn.seat)
      (take l.k l.inputs));
  sum_b : l.b ≡ fold summed l.fn.b (second_rows g.S.BoardSeat.is_driver (layout_of l.board.board_shape) (g.S.BoardSeat.knows l.fn.seat)
      (take l.k l.inputs));
}
