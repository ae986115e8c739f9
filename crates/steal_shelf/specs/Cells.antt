-- What the shelf may hold for a cell: the loop of one node as it was given, further on its way.
-- Source: PipeWire's documentation, "Data loops"; that loops of one node move between threads is
-- this project's own.
use Rattle.std.specs.Prelude.{◌≡◌, ◌⊎◌, ℕ, ◌<◌, ◌≤◌, slice_get}
use Rattle.atomic_table.specs.Seated.{TableId}
use Rattle.pw_graph.specs.declared.plan.Epoch.{Epoch}
use Rattle.pw_graph.specs.PlanFresh.{IsEpoch}
use Rattle.board_rule.specs.declared.board_shape.BoardShape.{BoardShape}
use Rattle.board_rule.specs.Layout.{layout_of}
use Rattle.data_loop.specs.declared.loop_state.LoopState.{LoopState}
use Rattle.data_loop.specs.declared.epoch_state.EpochState.{EpochState}
use Rattle.data_loop.specs.Loops.{plan_of, HasEpochState, IsBetweenEpochs}
use Rattle.data_loop.specs.LoopsOnBoards.{IsOnBoard, IsFirstSeat}

-- between two epochs; from this one on it has the seats of the cell
pub record IsCellBetween (c s : LoopState) : Type 0 where
  pub between : IsBetweenEpochs s
  pub from : (j : ℕ) → s.epoch ≤ j
      → slice_get s.epoch_states.items j ≡ slice_get c.epoch_states.items j

-- on a board of the epoch's shape, of which the cell was given a seat
pub record IsCellOnBoard (c s : LoopState) : Type 0 where
  pub board : BoardShape
  pub table : TableId
  pub shape : (e : Epoch) → IsEpoch (plan_of c) s.epoch e → board.shape ≡ e.shape
  pub seat : (g : EpochState) → HasEpochState c s.epoch g
      → IsFirstSeat (plan_of c) c.run_model.waves.value s.epoch c.nodes (layout_of board)
      table g.seat
  pub on : IsOnBoard (layout_of board) table s
  pub later : (j : ℕ) → s.epoch < j
      → slice_get s.epoch_states.items j ≡ slice_get c.epoch_states.items j

-- THE CELL c, with the plan, the waves and the seats that it was made with, is now s
pub record IsCell (c s : LoopState) : Type 0 where
  pub run_model : s.run_model ≡ c.run_model
  pub nodes : s.nodes ≡ c.nodes
  pub stands : IsCellBetween c s ⊎ IsCellOnBoard c s
