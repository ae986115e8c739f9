-- The run of a plan by its loops: what the driver's thread leads with, and what is left.
-- Source: this project's own.
use Rattle.std.specs.Prelude.{◌≡◌, ℕ, ◌<◌, ◌≤◌, List, [], All, length, map}
use Rattle.data_loop.specs.declared.loop_state.LoopState.{LoopState}
use Rattle.driver_cycle.specs.Settling.{AreEach}
use Rattle.graph_run.specs.declared.crew.EndedLoops.{EndedLoops}
use Rattle.graph_run.specs.declared.crew.LeadEnd.{LeadEnd}
use Rattle.graph_run.specs.declared.crew.LeadStart.{LeadStart}
use Rattle.graph_run.specs.declared.shared.LoopWay.{LoopWay}
use Rattle.graph_run.specs.declared.shared.Shared.{Shared}
use Rattle.graph_run.specs.Leads.{HaveLed, HaveLooked}
use Rattle.graph_run.specs.Outcomes.{AreDone}
use Rattle.graph_run.specs.Threads.{CanStart, CanDrive, HasRun, HasNode}

-- loops without their ways
abbrev pub states_of : List LoopWay → List LoopState
states_of loops = map (λ given. given.state) loops

module _ (shared : Shared) where
  -- BEFORE IT: loops that can start, in which with the driver's own each node of the plan is; and
  -- lists with room for all of them
  pub record CanLead (l : LeadStart) (loops : List LoopWay) : Type 0 where
    pub can_start : All (CanStart shared) loops
    pub can_drive : CanDrive shared l.driving
    pub nodes : (n : ℕ) → n < length shared.run_model.plan.value.nodes
        → HasNode l.driving.own loops n
    pub bare : (l.adopted.list ≡ []) × (l.done.list ≡ [])
    pub adopted : length loops ≤ l.adopted.spare
    pub done : length loops < l.done.spare

  -- LED: the driver's own loop and those that it adopted have done all epochs, and the drivers'
  -- seats have ended all boards
  pub record HasLedRun (l : LeadStart) (held : List LoopWay) (h : LeadEnd) (m n : ℕ) : Type 0 where
    pub own : HasRun l.driving.own h.led.own
    pub adopted : AreEach HasRun (states_of held) h.led.adopted
    pub drivers : HaveLed (length shared.boards) shared.boards l.driving.drivers h.led.drivers
    pub looked : HaveLooked l.driving.drivers h.led.drivers m n
    pub room : h.done ≡ l.done

  -- AFTER IT: so have all loops
  pub record HaveEnded (l : LeadStart) (loops : List LoopWay) (e : EndedLoops) (m n : ℕ) : Type 0 where
    pub done : AreDone shared.run_model.plan.value shared.run_model.waves.value e.done
    pub drivers : HaveLed (length shared.boards) shared.boards l.driving.drivers e.drivers
    pub looked : HaveLooked l.driving.drivers e.drivers m n
