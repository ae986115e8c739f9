use Rattle.std.proofs.Common.{◌-◌, length}
use Rattle.data_loop.specs.Loops.{plan_of}
use Rattle.ready_queues.specs.declared.way.Way.{Way}
use Rattle.ready_queues.specs.Starting.{IsStarted}
use Rattle.data_loop.specs.declared.loop_state.LoopState.{LoopState}
use Rattle.data_loop.specs.LoopWay.{HasNoDriver, IsUnderWay, IsSameLoop, IsWayFor}
use Rattle.data_loop.specs.Courses.{HasGoneOn, HasRunAll}
use Rattle.data_loop.proofs.running.run_all.Given as goal

abbrev pub invariant-loop-state : goal.invariant-loop-state
invariant-loop-state g l = record {
  under_way : IsUnderWay l.boards l.state;
  same : IsSameLoop l.fn.state l.state;
  none : HasNoDriver l.state;
  gone : (t : LoopState) (b : Way) → HasGoneOn l.boards l.ways l.state l.way t b
      → HasRunAll l.boards l.ways l.fn.state l.fn.way t b;
  way : IsWayFor l.ways l.state l.way;
  started : IsStarted l.way;
}

abbrev pub decreases-loop-state : goal.decreases-loop-state
decreases-loop-state g l = length (plan_of l.state).epochs - l.state.epoch
