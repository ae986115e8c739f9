-- The loops of a plan before the first epoch.
-- Source: PipeWire's documentation, "Data loops" (a node is run by one loop); seats are this
-- project's own.
use Rattle.std.specs.Prelude.{◌≡◌, ℕ, ◌<◌, List, [], length, slice_index_or}
use Rattle.pw_graph.specs.declared.plan.Plan.{Plan}
use Rattle.wav_files.specs.declared.wav.WavIn.{WavIn}
use Rattle.board_rule.specs.declared.board.Board.{Board}
use Rattle.board_rule.specs.Known.{Known}
use Rattle.data_loop.specs.declared.loop_state.LoopState.{LoopState}
use Rattle.data_loop.specs.LoopStart.{IsLoopOf}
use Rattle.graph_run.specs.declared.seating.Seating.{Seating}
use Rattle.graph_run.specs.Boards.{AreBoardsBy, all_seats}
use Rattle.graph_run.specs.LoopsOnPlan.{AreReady}
use Rattle.graph_run.specs.Seating.{nodes_of_loop, holder_of}

-- one for each list of seats, by its number, with the nodes that the seating has on it
pub record AreLoopsOf (plan : Plan) (waves : List WavIn) (f : ℕ → ℕ)
    (rows : List (List Known))
    (states : List LoopState) : Type 0 where
  pub count : length states ≡ length rows
  pub each : (i : ℕ) (d : LoopState) → i < length rows
      → IsLoopOf plan waves (nodes_of_loop f plan i) (slice_index_or rows i [])
      (slice_index_or states i d)

-- WITH THE SEATS of the plan's boards, each loop is ready to run on them, and the driver's own
-- only it has the drivers
abbrev pub AreReadyOnBoards : Plan → List WavIn → Seating → List (List Known)
    → List LoopState → Type 0
AreReadyOnBoards plan waves seating rows states = (boards : List Board)
    → AreBoardsBy plan (holder_of seating) seating.loops boards
    → rows ≡ all_seats plan waves seating.loops boards
    → AreReady boards seating.loops states
