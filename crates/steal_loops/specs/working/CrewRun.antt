-- The run of workers as a crew: what the driver's thread leads with, and what is left.
-- Source: PipeWire's documentation, "Data loops"; that any thread runs any node is this project's
-- own.
use Rattle.std.specs.Prelude.{◌≡◌, ℕ, ◌<◌, [], length}
use Rattle.crossbeam_utils.specs.Token.{parker_view}
use Rattle.graph_run.specs.Leads.{HaveLed, HaveLooked}
use Rattle.graph_run.specs.Outcomes.{AreDone}
use Rattle.graph_run.specs.Threads.{HasRun}
use Rattle.steal_shelf.specs.Seats.{cells_of}
use Rattle.steal_loops.specs.declared.crew.EndedCells.{EndedCells}
use Rattle.steal_loops.specs.declared.crew.LeadState.{LeadState}
use Rattle.steal_loops.specs.declared.shared.Shared.{Shared}
use Rattle.steal_loops.specs.declared.claimant.Claimant.{Claimant}
use Rattle.steal_loops.specs.working.Cells.{AreCells, HaveFinished}
use Rattle.steal_loops.specs.working.Claimants.{IsNewWorker, IsDriverClaimant}
use Rattle.steal_loops.specs.working.Crews.{CanDrive, HasNode}

module _ (shared : Shared) where
  -- BEFORE THE RUN: a worker of its cells, whose way was not started
  pub record CanStart (t : Claimant) : Type 0 where
    pub cells : AreCells shared
    pub worker : IsNewWorker shared t

  -- the driver's thread, and room for all cells and its own loop
  pub record CanLead (l : LeadState) : Type 0 where
    pub cells : AreCells shared
    pub can_drive : CanDrive shared l.driving
    pub nodes : (n : ℕ) → n < length shared.run_model.plan.value.nodes
        → HasNode l.driving.own (cells_of shared.shelf) n
    pub bare : l.done.list ≡ []
    pub room : length (cells_of shared.shelf) < l.done.spare

  -- LED: the driver's own loop has done all epochs, and the drivers' seats have ended all boards
  pub record HasLedRun (l : LeadState) (led : LeadState) (m n : ℕ) : Type 0 where
    pub own : HasRun l.driving.own led.driving.own
    pub drivers : HaveLed (length shared.boards) shared.boards l.driving.drivers
        led.driving.drivers
    pub looked : HaveLooked l.driving.drivers led.driving.drivers m n
    pub claimant : IsDriverClaimant shared led.driving.claimant
    pub done : led.done ≡ l.done

  -- AFTER IT all cells have done so too
  pub record HaveEnded (l : LeadState) (e : EndedCells) (m n : ℕ) : Type 0 where
    pub done : AreDone shared.run_model.plan.value shared.run_model.waves.value e.done
    pub drivers : HaveLed (length shared.boards) shared.boards l.driving.drivers e.drivers
    pub looked : HaveLooked l.driving.drivers e.drivers m n

-- WORKED: from t to u a worker's thread has left each cell of its run at its end, and did not rest
pub record HasWorked (t u : Claimant) : Type 0 where
  pub finished : (shared : Shared) → CanStart shared t → HaveFinished shared u.seat
  pub awake : parker_view u.way.own ≡ parker_view t.way.own
