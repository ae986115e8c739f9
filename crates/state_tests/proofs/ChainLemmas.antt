-- The end of an epoch of one cycle is the begin of the next one.
use Rattle.std.proofs.Common.{◌≡◌, ℕ, suc, ◌<◌, length, arith}
use Rattle.pw_graph.specs.declared.plan.Epoch.{Epoch}
use Rattle.pw_graph.specs.declared.plan.Plan.{Plan}
use Rattle.node_progress.specs.declared.run_model.RunModel.{RunModel}
use Rattle.node_progress.specs.Restarts.{next_first, IsEndOf}
use Rattle.node_progress.proofs.RestartsLemmas.{first_next}
use Rattle.state_tests.specs.Chain.{IsCycleOf}

module _ (run_model : RunModel) (plan : Plan) (k : ℕ) (e : Epoch) (cycle : IsCycleOf run_model plan k e) (n : ℕ)
    (place : n < length run_model.plan.value.nodes) where
  pub ends : IsEndOf run_model k (suc k) n
  ends = let one = cycle.one in record {
    sound = cycle.sound;
    waves = cycle.fit;
    place = place;
    epoch = e;
    at = cycle.at;
    end = omega (arith, one);
  }

  pub next_is : next_first run_model.plan.value k ≡ suc k
  next_is = first_next run_model k (suc k) n ends
