-- The loops of a run, each in a thread of its own or adopted by the driver's thread: before it and
-- after its last epoch.
-- Source: PipeWire's documentation, "Data loops"; that the driver's thread adopts a loop is this
-- project's own.
use Rattle.std.specs.Prelude.{◌≡◌, ◌⊎◌, ℕ, ◌<◌, List, Contains, length, map, slice_index_or}
use Rattle.ready_queues.specs.Starting.{IsIdle}
use Rattle.data_loop.specs.declared.loop_state.LoopState.{LoopState}
use Rattle.data_loop.specs.Loops.{plan_of}
use Rattle.data_loop.specs.LoopKept.{IsDone}
use Rattle.data_loop.specs.LoopWay.{IsSameLoop, IsWayFor, IsDriverWay}
use Rattle.graph_run.specs.declared.shared.LoopWay.{LoopWay}
use Rattle.graph_run.specs.declared.shared.Shared.{Shared}
use Rattle.graph_run.specs.declared.leading.Driving.{Driving}
use Rattle.graph_run.specs.LoopsOnPlan.{IsReady, HasDrivers, HasNoDriver, AreFirstLeads}
use Rattle.graph_run.specs.Outcomes.{IsDoneOf}

module _ (shared : Shared) where
  -- BEFORE THE RUN: a loop of the run's plan that no driver is in, and the same with its way, which
  -- was not started
  pub record CanRun (s : LoopState) : Type 0 where
    pub ready : IsReady shared.boards s
    pub none : HasNoDriver s
    pub plan_is : plan_of s ≡ shared.run_model.plan.value
    pub waves_are : s.run_model.waves.value ≡ shared.run_model.waves.value

  pub record CanStart (given : LoopWay) : Type 0 where
    pub can_run : CanRun given.state
    pub way : IsWayFor shared.ways given.state given.way
    pub idle : IsIdle given.way

  -- the driver's own loop, its seats and its way
  pub record CanDrive (d : Driving) : Type 0 where
    pub ready : IsReady shared.boards d.own
    pub has : HasDrivers d.own
    pub leads : AreFirstLeads d.own.run_model shared.boards d.drivers
    pub way : IsDriverWay shared.ways d.way
    pub plan_is : plan_of d.own ≡ shared.run_model.plan.value
    pub waves_are : d.own.run_model.waves.value ≡ shared.run_model.waves.value

  -- AFTER IT
  abbrev pub IsDoneWith : LoopState → Type 0
  IsDoneWith = IsDoneOf shared.run_model.plan.value shared.run_model.waves.value

-- the loop has done all epochs
pub record HasRun (s t : LoopState) : Type 0 where
  pub done : IsDone t
  pub same : IsSameLoop s t

-- the nodes of each loop of a list
abbrev pub nodes_with : List LoopState → List (List ℕ)
nodes_with states = map (λ s. s.nodes) states

-- a node is one of the driver's own loop, or of one of the others
abbrev pub HasNode : LoopState → List LoopWay → ℕ → Type 0
HasNode own loops n = Contains own.nodes n ⊎ ((i : ℕ) × (i < length loops)
    × ((x : LoopWay) → Contains (slice_index_or loops i x).state.nodes n))
