-- A loop on its way through the boards of a run, and its way to the queues.
-- Source: PipeWire's documentation, "Data loops"; that a loop has a board an epoch is this
-- project's own.
use Rattle.std.specs.Prelude.{◌≡◌, ◌⊎◌, ℕ, ◌<◌, ◌≤◌, suc, List, Some, Contains, length, slice_get}
use Rattle.pw_graph.specs.declared.plan.Epoch.{Epoch}
use Rattle.pw_graph.specs.PlanFresh.{IsEpoch}
use Rattle.board_rule.specs.declared.board.Board.{Board}
use Rattle.board_rule.specs.OnBoard.{layout, table_of}
use Rattle.ready_queues.specs.declared.way.Way.{Way}
use Rattle.ready_queues.specs.declared.ways.Ways.{Ways}
use Rattle.ready_queues.specs.AnsweredWith.{IsWayOf}
use Rattle.ready_queues.specs.QueueRule.{IsNodeOf}
use Rattle.ready_queues.specs.Receiving.{HasRested}
use Rattle.data_loop.specs.declared.loop_state.LoopState.{LoopState}
use Rattle.data_loop.specs.declared.epoch_state.EpochState.{EpochState}
use Rattle.data_loop.specs.Loops.{plan_of, HasEpochState, IsBetweenEpochs}
use Rattle.data_loop.specs.LoopsOnBoards.{IsOnBoard, IsFirstSeat}

-- one board an epoch; of those from epoch k on the loop has a seat as the board gave it
pub record HasBoards (k : ℕ) (boards : List Board) (s : LoopState) : Type 0 where
  pub count : length boards ≡ length (plan_of s).epochs
  pub shape : (j : ℕ) (e : Epoch) (b : Board) → IsEpoch (plan_of s) j e
      → slice_get boards j ≡ Some b → b.board_shape.shape ≡ e.shape
  pub seat : (j : ℕ) (b : Board) (g : EpochState) → k ≤ j → slice_get boards j ≡ Some b
      → HasEpochState s j g
      → IsFirstSeat (plan_of s) s.run_model.waves.value j s.nodes (layout b) (table_of b) g.seat

-- no node of the loop drives
abbrev pub HasNoDriver : LoopState → Type 0
HasNoDriver s = (k : ℕ) (e : Epoch) → IsEpoch (plan_of s) k e
    → ¬ (Contains s.nodes e.shape.driver)

-- on the board of its epoch
pub record IsAmid (boards : List Board) (s : LoopState) : Type 0 where
  pub board : Board
  pub here : slice_get boards s.epoch ≡ Some board
  pub on : IsOnBoard (layout board) (table_of board) s
  pub boards_are : HasBoards (suc s.epoch) boards s

-- UNDER WAY: between two epochs, or on the board of one
abbrev pub IsUnderWay : List Board → LoopState → Type 0
IsUnderWay boards s = (IsBetweenEpochs s × HasBoards s.epoch boards s) ⊎ IsAmid boards s

-- the same plan, waves and nodes
pub record IsSameLoop (s t : LoopState) : Type 0 where
  pub run_model : t.run_model ≡ s.run_model
  pub nodes : t.nodes ≡ s.nodes

-- the way to the queues of a loop: by `owner` the loop has just the nodes of the state
pub record IsWayFor (ways : Ways) (s : LoopState) (way : Way) : Type 0 where
  pub answered : IsWayOf ways way
  pub one : way.number < ways.loops
  pub nodes : (n : ℕ) → IsNodeOf ways.owner way.number n → Contains s.nodes n
  pub owned : (n : ℕ) → Contains s.nodes n → IsNodeOf ways.owner way.number n

-- a thread rested once, or not at all
abbrev pub RestsAtMost : Way → Way → Type 0
RestsAtMost a b = (b ≡ a) ⊎ HasRested a b

-- the way of the driver's thread
abbrev pub IsDriverWay : Ways → Way → Type 0
IsDriverWay ways way = IsWayOf ways way × (way.number ≡ ways.loops)
