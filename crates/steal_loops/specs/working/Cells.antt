-- The cells of a run: each node that never drives, as a loop of its own.
-- Source: PipeWire's documentation, "Data loops"; that loops of one node move between threads is
-- this project's own.
use Rattle.std.specs.Prelude.{◌≡◌, ℕ, ◌<◌, ◌≤◌, List, Some, length, slice_get, slice_index_or}
use Rattle.pw_lists.specs.Limits.{nodes_limit}
use Rattle.data_loop.specs.declared.loop_state.LoopState.{LoopState}
use Rattle.data_loop.specs.Loops.{plan_of, IsLoop}
use Rattle.data_loop.specs.LoopKept.{IsDone}
use Rattle.data_loop.specs.LoopWay.{HasBoards, HasNoDriver, IsSameLoop}
use Rattle.steal_shelf.specs.declared.shelf.ShelfSeat.{ShelfSeat}
use Rattle.steal_shelf.specs.Fetching.{HasLeftSo}
use Rattle.steal_shelf.specs.Seats.{cells_of}
use Rattle.steal_loops.specs.declared.shared.Shared.{Shared}
use Rattle.steal_loops.specs.working.NodeSets.{AreCelled}

module _ (shared : Shared) where
  -- A CELL of the run's plan, as it was given: it has seats of all boards, and no driver
  pub record IsCellFor (c : LoopState) : Type 0 where
    pub loop : IsLoop c
    pub boards_are : HasBoards 0 shared.boards c
    pub none : HasNoDriver c
    pub plan_is : plan_of c ≡ shared.run_model.plan.value
    pub waves_are : c.run_model.waves.value ≡ shared.run_model.waves.value

  -- those on the shelf, as many as the seating has seats beside the driver's own
  pub record AreCells : Type 0 where
    pub each : (i : ℕ) (c : LoopState) → slice_get (cells_of shared.shelf) i ≡ Some c
        → IsCellFor c
    pub count : length (cells_of shared.shelf) ≡ shared.seating.loops
    pub few : shared.seating.loops ≤ nodes_limit
    pub celled : AreCelled shared.seating shared.signs.celled

  -- AT ITS END: the cell i, after all epochs
  pub record IsFinished (i : ℕ) (s : LoopState) : Type 0 where
    pub cell : LoopState
    pub there : slice_get (cells_of shared.shelf) i ≡ Some cell
    pub done : IsDone s
    pub same : IsSameLoop cell s

  -- so the seat left it, the last time that it put it back; and so it left each of them
  abbrev pub HasFinished : ShelfSeat → ℕ → Type 0
  HasFinished seat i = (s : LoopState) × HasLeftSo seat i s × IsFinished i s

  abbrev pub HaveFinished : ShelfSeat → Type 0
  HaveFinished seat = (i : ℕ) → i < length (cells_of shared.shelf) → HasFinished seat i

  -- the first n of them, in their order
  pub record AreCollected (n : ℕ) (list : List LoopState) : Type 0 where
    pub count : length list ≡ n
    pub each : (i : ℕ) (d : LoopState) → i < n → IsFinished i (slice_index_or list i d)
