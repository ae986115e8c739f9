-- A node's state before the run: made for all of it, and nothing received yet.
-- Source: this project's own.
use Rattle.std.specs.Prelude.{◌≡◌, ℕ, ◌*◌, ◌<◌, ◌≤◌, ◌==◌, ◌⊎◌, List, Option, option_map, find, length}
use Rattle.pw_graph.specs.declared.plan.Plan.{Plan}
use Rattle.pw_graph.specs.PlanForms.{kind_at}
use Rattle.pw_graph.specs.PlanFresh.{Names}
use Rattle.wav_files.specs.declared.wav.Wav.{Wav}
use Rattle.wav_files.specs.declared.wav.WavIn.{WavIn}
use Rattle.cycle_model.specs.Epochs.{all_cycles}
use Rattle.cycle_model.specs.Progress.{nothing}
use Rattle.node_state.specs.declared.node_state.NodeState.{NodeState}
use Rattle.node_state.specs.StandsFor.{StandsFor, node_kind, node_wave_channels, node_quantum, frames_so_far, prepared_frames, most_channels}
use Rattle.node_progress.specs.declared.run_model.RunModel.{RunModel}
use Rattle.node_progress.specs.Standing.{read_by, worked}
use Rattle.node_progress.specs.NodeStates.{wave_channels_of}

-- the greatest channels with which an epoch names the node as fresh; 0 where none does
pub record IsMostNamed (plan : Plan) (n most : ℕ) : Type 0 where
  pub bound : (k channels : ℕ) → Names plan k n channels → channels ≤ most
  pub named : (most ≡ 0) ⊎ ((k : ℕ) × Names plan k n most)

-- the wave of a node, if it has one
abbrev pub wav_of : List WavIn → ℕ → Option Wav
wav_of waves n = option_map (λ w. w.wav) (find (λ w. w.node == n) waves)

-- a state made for all cycles that the node n works in the run, with the greatest channels that an
-- epoch gives its first input, which has received nothing
pub record IsPreparedNode (run_model : RunModel) (n : ℕ) (s : NodeState) : Type 0 where
  pub kind : node_kind s ≡ kind_at run_model.plan.value n
  pub wave : node_wave_channels s ≡ wave_channels_of run_model.waves.value n
  pub quantum : 0 < length run_model.plan.value.epochs
      → node_quantum s ≡ run_model.plan.value.quantum
  pub frames : frames_so_far s ≡ 0
  pub prepared : prepared_frames s
      ≡ run_model.plan.value.quantum * worked run_model.plan.value n
      (all_cycles run_model.plan.value)
  pub most : IsMostNamed run_model.plan.value n (most_channels s)
  pub stands : StandsFor s (read_by run_model n s nothing)
