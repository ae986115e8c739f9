-- The driver's seat on the board of an epoch: what is so of it between two cycles, while it waits
-- for the driver's node, and when it has ended all cycles.
-- Source: PipeWire's documentation, "Graph Scheduling"; the calls are this project's own.
use Rattle.std.specs.Prelude.{◌≡◌, ℕ}
use Rattle.pw_graph.specs.declared.plan.Epoch.{Epoch}
use Rattle.pw_graph.specs.PlanFresh.{IsEpoch}
use Rattle.cycle_model.specs.Expected.{epoch_rows}
use Rattle.board_rule.specs.declared.board.Board.{Board}
use Rattle.board_rule.specs.OnBoard.{IsOn, layout}
use Rattle.board_rule.specs.Known.{Known}
use Rattle.io_areas.specs.PooledBoard.{IsPooledBoard}
use Rattle.node_progress.specs.declared.run_model.RunModel.{RunModel}
use Rattle.data_loop.specs.Driving.{IsDriverRead}
-- between two cycles, waiting for the driver's node, and at the end: views of the seat
pub use Rattle.activation_words.specs.Members.{IsBetween, IsWaiting, IsDriving}
pub use Rattle.board_rule.specs.events.Closing.{HasEndedAll}

-- THE SEAT on the board of epoch k, whose samples are those of the cycle function. Each link into
-- the driver's node is read in the cycles before the seat's, and not yet in it
pub record IsLeading (run_model : RunModel) (k : ℕ) (board : Board) (s : Known) : Type 0 where
  pub epoch : Epoch
  pub at : IsEpoch run_model.plan.value k epoch
  pub shape : board.board_shape.shape ≡ epoch.shape
  pub pooled : IsPooledBoard (layout board)
  pub table : IsOn board s.table
  pub expect : s.knows.expect ≡ epoch_rows run_model.plan.value run_model.waves.value epoch
  pub even : IsDriverRead (layout board) s.knows s.knows.lead.cycle
