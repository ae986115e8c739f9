-- What the threads of a run have before its first cycle: a loop with its way to the queues, and
-- what the driver's thread has.
-- Source: PipeWire's documentation, "Data loops"; ways are this project's own.
use Rattle.std.specs.Prelude.{List}
use Rattle.board_rule.specs.declared.board.Board.{Board}
use Rattle.board_rule.specs.Known.{Known}
use Rattle.ready_queues.specs.declared.way.Way.{Way}
use Rattle.ready_queues.specs.declared.ways.Ways.{Ways}
use Rattle.ready_queues.specs.Starting.{IsIdle}
use Rattle.data_loop.specs.declared.loop_state.LoopState.{LoopState}
use Rattle.data_loop.specs.LoopWay.{IsWayFor, IsDriverWay}
use Rattle.graph_run.specs.LoopsOnPlan.{IsReady, HasDrivers, HasNoDriver, AreFirstLeads}

-- A LOOP that can be started, with its way, which was not started
pub record CanStart (boards : List Board) (ways : Ways) (x : LoopState × Way) : Type 0 where
  pub ready : IsReady boards x.0
  pub none : HasNoDriver x.0
  pub way : IsWayFor ways x.0 x.1
  pub idle : IsIdle x.1

-- THE DRIVER'S own loop, its seats and its way
pub record CanDrive (boards : List Board) (ways : Ways) (own : LoopState) (drivers : List Known)
    (given : Way) : Type 0 where
  pub ready : IsReady boards own
  pub has : HasDrivers own
  pub leads : AreFirstLeads own.run_model boards drivers
  pub way : IsDriverWay ways given
