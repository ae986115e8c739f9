-- A loop before the first epoch.
-- Source: PipeWire's documentation, "Data loops"; which loop has a node is this project's own.
use Rattle.std.specs.Prelude.{◌≡◌, ℕ, ◌<◌, List, length, map, slice_index, slice_index_or}
use Rattle.pw_graph.specs.declared.plan.Plan.{Plan}
use Rattle.wav_files.specs.declared.wav.WavIn.{WavIn}
use Rattle.board_rule.specs.Known.{Known}
use Rattle.node_state.specs.declared.node_state.NodeState.{NodeState}
use Rattle.node_progress.specs.declared.run_model.RunModel.{RunModel}
use Rattle.node_progress.specs.NodeStates.{IsNodeState}
use Rattle.data_loop.specs.declared.loop_state.LoopState.{LoopState}

-- the states of the nodes before the first cycle of the run
pub record AreFirstStates (run_model : RunModel) (nodes : List ℕ)
    (states : List NodeState) : Type 0 where
  pub count : length states ≡ length nodes
  pub each : (j : ℕ) (d : NodeState) → j < length nodes
      → IsNodeState run_model 0 0 (slice_index nodes j) (slice_index_or states j d)

-- the loop of these nodes and seats
pub record IsLoopOf (plan : Plan) (waves : List WavIn) (nodes : List ℕ) (seats : List Known)
    (s : LoopState) : Type 0 where
  pub plan_is : s.run_model.plan.value ≡ plan
  pub waves_are : s.run_model.waves.value ≡ waves
  pub nodes_are : s.nodes ≡ nodes
  pub first : s.epoch ≡ 0
  pub seats_are : map (λ g. g.seat) s.epoch_states.items ≡ seats
