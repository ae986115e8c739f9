-- The threads of a run before its first cycle.
-- Source: PipeWire's documentation, "Data loops"; that any thread runs any node is this project's
-- own.
use Rattle.std.specs.Prelude.{◌≡◌, ◌⊎◌, ℕ, ◌<◌, List, All, Contains, length, map, slice_index_or}
use Rattle.std.specs.List.{enumerate_from}
use Rattle.pw_graph.specs.declared.plan.Plan.{Plan}
use Rattle.wav_files.specs.declared.wav.WavIn.{WavIn}
use Rattle.data_loop.specs.declared.loop_state.LoopState.{LoopState}
use Rattle.data_loop.specs.Loops.{plan_of}
use Rattle.graph_run.specs.Assignment.{cell_number, cell_count, owner_row}
use Rattle.graph_run.specs.Boards.{AreBoardsBy, driver_of}
use Rattle.graph_run.specs.LoopsOnPlan.{IsReady, HasDrivers, AreFirstLeads}
use Rattle.steal_shelf.specs.Seats.{cells_of}
use Rattle.steal_loops.specs.declared.leading.Driving.{Driving}
use Rattle.steal_loops.specs.declared.preparing.Prepared.{Prepared}
use Rattle.steal_loops.specs.declared.shared.Shared.{Shared}
use Rattle.steal_loops.specs.working.Cells.{AreCells}
use Rattle.steal_loops.specs.working.Claimants.{IsNewWorker, IsDriverClaimant}

-- THE DRIVER'S THREAD: its own loop has the drivers, and it has the driver's seats of all boards
pub record CanDrive (shared : Shared) (d : Driving) : Type 0 where
  pub ready : IsReady shared.boards d.own
  pub has : HasDrivers d.own
  pub leads : AreFirstLeads d.own.run_model shared.boards d.drivers
  pub claimant : IsDriverClaimant shared d.claimant
  pub plan_is : plan_of d.own ≡ shared.run_model.plan.value
  pub waves_are : d.own.run_model.waves.value ≡ shared.run_model.waves.value

-- a node is one of the driver's own loop, or of a cell
abbrev pub HasNode : LoopState → List LoopState → ℕ → Type 0
HasNode own cells n = Contains own.nodes n ⊎ ((i : ℕ) × (i < length cells)
    × ((d : LoopState) → Contains (slice_index_or cells i d).nodes n))

-- PREPARED: boards, cells and drivers' seats of the plan. Each node of the plan is one of a cell,
-- or of the driver's own loop. The queues are those of the plan's nodes for `loops` workers
pub record IsPrepared (plan : Plan) (waves : List WavIn) (loops : ℕ)
    (r : Prepared) : Type 0 where
  pub plan_is : r.shared.run_model.plan.value ≡ plan
  pub waves_are : r.shared.run_model.waves.value ≡ waves
  pub shapes : AreBoardsBy plan (cell_number plan) (cell_count plan) r.shared.boards
  pub drivers : r.driving.drivers
      ≡ map (driver_of plan waves (cell_count plan)) (enumerate_from 0 r.shared.boards)
  pub owner : r.shared.ways.owner ≡ owner_row plan loops
  pub loops_are : r.shared.ways.loops ≡ loops
  pub cells : AreCells r.shared
  pub workers : All (IsNewWorker r.shared) r.workers
  pub can_drive : CanDrive r.shared r.driving
  pub count : length r.workers ≡ loops
  pub nodes : (n : ℕ) → n < length plan.nodes
      → HasNode r.driving.own (cells_of r.shared.shelf) n
