use Rattle.board_rule.specs.OnBoard.{layout, table_of}
use Rattle.data_loop.specs.Settling.{HasHadTurns}
use Rattle.data_loop.proofs.settling.settle.Given as goal

abbrev pub invariant-loop : goal.invariant-loop
invariant-loop g l = (goal.iterator-loop g).can_next l.iterator' × (goal.iterator-loop g).is_finite l.iterator'
    × HasHadTurns (layout l.board) (table_of l.board) l.fn.state l.state
