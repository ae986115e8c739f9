use Rattle.std.proofs.Common.{◌≡◌, take}
use Rattle.board_rule.specs.Layout.{layout_of}
use Rattle.data_loop.specs.working.Writing.{AreWritten}
use Rattle.data_loop.proofs.giving.give_all.Given as goal

abbrev pub invariant-loop-pool : goal.invariant-loop-pool
invariant-loop-pool l = record {
  table : l.seat.table ≡ l.fn.seat.table;
  written : AreWritten (layout_of l.board.board_shape) l.fn.seat.knows l.fn.own (take l.pool-index l.pools) l.seat.knows l.own;
}
