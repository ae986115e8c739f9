-- A chain of nodes through epochs of a cycle each: what a step of it asks for. Source: this
-- project's own.
use Rattle.std.specs.Prelude.{◌≡◌, ℕ, ◌<◌, length}
use Rattle.pw_graph.specs.declared.plan.Epoch.{Epoch}
use Rattle.pw_graph.specs.declared.plan.Plan.{Plan}
use Rattle.pw_graph.specs.PlanFresh.{IsEpoch}
use Rattle.pw_graph.specs.SoundPlan.{IsSoundPlan}
use Rattle.cycle_model.specs.WavesFit.{WavesFit}
use Rattle.node_progress.specs.declared.run_model.RunModel.{RunModel}

-- the run's model is of this plan, which is sound with its waves and has three nodes
pub record IsChain (run_model : RunModel) (plan : Plan) : Type 0 where
  pub plan_is : run_model.plan.value ≡ plan
  pub sound : IsSoundPlan run_model.plan.value
  pub fit : WavesFit run_model.plan.value run_model.waves.value
  pub three : 2 < length run_model.plan.value.nodes

-- and its epoch k has one cycle, of its own number
pub record IsCycleOf (run_model : RunModel) (plan : Plan) (k : ℕ) (e : Epoch) : Type 0 where
  pub plan_is : run_model.plan.value ≡ plan
  pub sound : IsSoundPlan run_model.plan.value
  pub fit : WavesFit run_model.plan.value run_model.waves.value
  pub at : IsEpoch run_model.plan.value k e
  pub one : (e.shape.first ≡ k) × (e.shape.cycles ≡ 1)
