use Rattle.std.proofs.Common.{◌≡◌, ◌++◌, length, map, take, drop}
use Rattle.std.specs.Prelude.{zip}
use Rattle.graph_run.specs.Boards.{dealt}
use Rattle.graph_run.proofs.boards.deal.Given as goal

abbrev pub invariant-loop-seat : goal.invariant-loop-seat
invariant-loop-seat l = record {
  number : l.i ≡ length l.yielded;
  rest : l.fn.seats ≡ l.yielded ++ l.seat-iterator.rest.items;
  rows : l.rows.items ≡ map dealt (zip (take l.i l.fn.rows.items) l.yielded) ++ drop l.i l.fn.rows.items;
}
