-- From epoch to epoch: which nodes begin their streams anew, and with how many channels.
-- Source: this project's: a node whose last link went gives up its formats, and its stream starts
-- anew.
use Rattle.std.specs.Prelude.{◌≡◌, ℕ, suc, ◌+◌, ◌<◌, ◌==◌, Option, option_map, find, length, slice_get}
use Rattle.pw_graph.specs.declared.plan.Epoch.{Epoch}
use Rattle.pw_graph.specs.declared.plan.Plan.{Plan}
use Rattle.pw_graph.specs.PlanFresh.{IsEpoch}
use Rattle.pw_graph.specs.SoundPlan.{IsSoundPlan}
use Rattle.cycle_model.specs.Epochs.{listed}
use Rattle.cycle_model.specs.WavesFit.{WavesFit}
use Rattle.node_progress.specs.declared.run_model.RunModel.{RunModel}
use Rattle.node_progress.specs.NodeStates.{first_of}

-- the channels with which epoch k names the node as fresh; none where it does not
abbrev pub restart_of : Plan → ℕ → ℕ → Option ℕ
restart_of plan k n = option_map (λ f. f.channels)
    (find (λ f. f.node == n) (listed (λ e. e.fresh) (slice_get plan.epochs k)))

-- the first cycle after epoch k
abbrev pub next_first : Plan → ℕ → ℕ
next_first plan k = first_of plan (suc k)

-- epoch k ends before the cycle c
pub record IsEndOf (run_model : RunModel) (k c n : ℕ) : Type 0 where
  pub sound : IsSoundPlan run_model.plan.value
  pub waves : WavesFit run_model.plan.value run_model.waves.value
  pub place : n < length run_model.plan.value.nodes
  pub epoch : Epoch
  pub at : IsEpoch run_model.plan.value k epoch
  pub end : c ≡ epoch.shape.first + epoch.shape.cycles
