-- Loops with the boards of all epochs: what they and the drivers' seats are before a run, and how
-- far they have got.
-- Source: PipeWire's documentation, "Graph Scheduling" and "Data loops"; which loop has a node is
-- this project's own.
use Rattle.std.specs.Prelude.{◌≡◌, ◌⊎◌, ℕ, ◌+◌, ◌<◌, ◌≤◌, List, Some, All, Contains, length, slice_get, slice_index_or}
use Rattle.pw_graph.specs.declared.plan.Epoch.{Epoch}
use Rattle.pw_lists.specs.Limits.{dummy_node}
use Rattle.pw_graph.specs.PlanFresh.{IsEpoch}
use Rattle.board_rule.specs.declared.board.Board.{Board}
use Rattle.board_rule.specs.Known.{Known}
use Rattle.board_rule.specs.Layout.{first}
use Rattle.board_rule.specs.OnBoard.{layout, table_of}
use Rattle.node_progress.specs.declared.run_model.RunModel.{RunModel}
use Rattle.data_loop.specs.declared.loop_state.LoopState.{LoopState}
use Rattle.data_loop.specs.declared.epoch_state.EpochState.{EpochState}
use Rattle.data_loop.specs.Loops.{plan_of, HasEpochState, IsBetweenEpochs}
use Rattle.data_loop.specs.LoopsOnBoards.{IsFirstSeat, IsNextOf}
use Rattle.driver_cycle.specs.Leading.{IsLeading, IsBetween}

-- one board an epoch, of which the loop has a seat as the board gave it
pub record AreBoardsFor (boards : List Board) (s : LoopState) : Type 0 where
  pub count : length boards ≡ length (plan_of s).epochs
  pub shape : (k : ℕ) (e : Epoch) (b : Board) → IsEpoch (plan_of s) k e
      → slice_get boards k ≡ Some b → b.board_shape.shape ≡ e.shape
  pub seat : (k : ℕ) (b : Board) (g : EpochState) → slice_get boards k ≡ Some b
      → HasEpochState s k g
      → IsFirstSeat (plan_of s) s.run_model.waves.value k s.nodes (layout b) (table_of b) g.seat

-- BEFORE THE RUN
pub record IsReady (boards : List Board) (s : LoopState) : Type 0 where
  pub between : IsBetweenEpochs s
  pub none_done : s.epoch ≡ 0
  pub boards_are : AreBoardsFor boards s

-- each driver is a node of the loop, or the dummy; none of them is
abbrev pub HasDrivers : LoopState → Type 0
HasDrivers s = (k : ℕ) (e : Epoch) → IsEpoch (plan_of s) k e
    → (e.shape.driver ≡ dummy_node) ⊎ Contains s.nodes e.shape.driver

abbrev pub HasNoDriver : LoopState → Type 0
HasNoDriver s = (k : ℕ) (e : Epoch) → IsEpoch (plan_of s) k e
    → ¬ (Contains s.nodes e.shape.driver)

-- the driver's seat on the board of epoch k before the first cycle, and those of all boards
pub record IsFirstLead (run_model : RunModel) (k : ℕ) (board : Board) (seat : Known) : Type 0 where
  pub leads : IsLeading run_model k board seat
  pub between : IsBetween (layout board) seat.knows
  pub none_led : seat.knows.lead.cycle ≡ first (layout board)

pub record AreFirstLeads (run_model : RunModel) (boards : List Board)
    (seats : List Known) : Type 0 where
  pub count : length seats ≡ length boards
  pub each : (k : ℕ) (b : Board) (d : Known) → slice_get boards k ≡ Some b
      → IsFirstLead run_model k b (slice_index_or seats k d)

-- THE LOOPS of a plan, and last the driver's own, which has all drivers, before the run
pub record AreReady (boards : List Board) (loops : ℕ) (states : List LoopState) : Type 0 where
  pub count : length states ≡ loops + 1
  pub each : All (IsReady boards) states
  pub without : (i : ℕ) (d : LoopState) → i < loops → HasNoDriver (slice_index_or states i d)
  pub own : (d : LoopState) → HasDrivers (slice_index_or states loops d)

-- THE WAY: from s the loop has got to t, before epoch k, and from k on it has what it had
pub record HasCome (k : ℕ) (s t : LoopState) : Type 0 where
  pub between : IsBetweenEpochs t
  pub epoch : t.epoch ≡ k
  pub run_model : t.run_model ≡ s.run_model
  pub nodes : t.nodes ≡ s.nodes
  pub later : (j : ℕ) → k ≤ j → slice_get t.epoch_states.items j ≡ slice_get s.epoch_states.items j

-- through one epoch, and only into the next
abbrev pub HasPassed : LoopState → LoopState → Type 0
HasPassed s t = HasCome (s.epoch + 1) s t

pub record HasEntered (s t : LoopState) : Type 0 where
  pub between : IsBetweenEpochs t
  pub next : t.epoch ≡ s.epoch + 1
  pub same : IsNextOf s t
