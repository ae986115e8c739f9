use Rattle.std.proofs.Common.{◌≡◌, length}
use Rattle.board_rule.specs.OnBoard.{layout, table_of}
use Rattle.driver_cycle.specs.Settling.{HasSettled, AreEachBelow}
use Rattle.driver_cycle.proofs.settling.settle_all.Given as goal

abbrev pub invariant-loop-k : goal.invariant-loop-k
invariant-loop-k g l = (l.k-end ≡ length l.fn.states)
    × AreEachBelow (HasSettled (layout l.board) (table_of l.board)) l.k l.fn.states l.states
