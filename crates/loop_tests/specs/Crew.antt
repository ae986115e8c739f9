-- The driver's thread on the board of an epoch with all loops, between two steps.
-- Source: PipeWire's documentation, "Graph Scheduling"; the calls are this project's own.
use Rattle.std.specs.Prelude.{◌≡◌}
use Rattle.board_rule.specs.declared.board.Board.{Board}
use Rattle.board_rule.specs.OnBoard.{layout}
use Rattle.driver_cycle.specs.Epochs.{IsThread}
use Rattle.driver_cycle.specs.Leading.{IsDriving}
use Rattle.loop_tests.specs.declared.crew.Crew.{Crew}

-- THE CREW: its seat leads the board, on which all its loops are; it waits for the driver's node
-- where a cycle is begun
pub record IsCrewOn (board : Board) (crew : Crew) : Type 0 where
  pub thread : IsThread board crew.seat crew.own crew.others.items
  pub driving : IsDriving (layout board) crew.seat.knows crew.waits
  pub checked : crew.checked ≡ crew.seat.knows.lead.checked
