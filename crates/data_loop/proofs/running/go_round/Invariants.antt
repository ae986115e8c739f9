use Rattle.board_rule.specs.OnBoard.{layout, table_of}
use Rattle.data_loop.specs.LoopWay.{IsWayFor}
use Rattle.data_loop.specs.Settling.{HasHadTurns}
use Rattle.data_loop.specs.Rounds.{HasMadeRounds}
use Rattle.ready_queues.specs.declared.way.Way.{Way}
use Rattle.ready_queues.specs.Starting.{IsStarted}
use Rattle.data_loop.specs.declared.loop_state.LoopState.{LoopState}
use Rattle.data_loop.proofs.running.go_round.Given as goal

abbrev pub invariant-loop : goal.invariant-loop
invariant-loop g l = record {
  can_next : (goal.iterator-loop g).can_next l.iterator';
  finite : (goal.iterator-loop g).is_finite l.iterator';
  turned : HasHadTurns (layout l.board) (table_of l.board) l.fn.state l.state;
  rounds : (t : LoopState) (b : Way) → HasMadeRounds (layout l.board) l.ways l.state l.way t b
      → HasMadeRounds (layout l.board) l.ways l.fn.state l.fn.way t b;
  way : IsWayFor l.ways l.state l.way;
  started : IsStarted l.way;
}
