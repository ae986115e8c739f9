-- The state of a node in a run, before a cycle of an epoch, and what one cycle more asks for.
-- Source: PipeWire's documentation, "Graph Scheduling": a node runs after those it depends on.
use Rattle.std.specs.Prelude.{◌≡◌, ◌≢◌, ℕ, ◌+◌, ◌*◌, ◌==◌, ◌<◌, ◌≤◌, ◌⊎◌, List, ℤ, length, true, find, slice_get}
use Rattle.std.specs.Prelude.{option_map, unwrap_or}
use Rattle.pw_graph.specs.declared.plan.Epoch.{Epoch}
use Rattle.pw_graph.specs.declared.plan.Plan.{Plan}
use Rattle.pw_graph.specs.KindPorts.{input_count, output_count}
use Rattle.pw_graph.specs.PlanForms.{kind_at}
use Rattle.pw_graph.specs.PlanFresh.{IsEpoch, Names, StaysFrom}
use Rattle.pw_graph.specs.SoundPlan.{IsSoundPlan}
use Rattle.wav_files.specs.declared.wav.WavIn.{WavIn}
use Rattle.cycle_model.specs.Epochs.{all_cycles}
use Rattle.cycle_model.specs.WavesFit.{WavesFit}
use Rattle.node_state.specs.declared.node_state.NodeState.{NodeState}
use Rattle.node_state.specs.StandsFor.{node_kind, node_wave_channels, node_quantum, frames_so_far, prepared_frames, node_channels, most_channels}
use Rattle.node_progress.specs.declared.run_model.RunModel.{RunModel}
use Rattle.node_progress.specs.Standing.{HasReceivedBefore, HasReceivedUntil, receives, works_in, worked}
use Rattle.node_progress.specs.NodeCycles.{output_channels}

-- the first cycle of epoch k; past the last one all cycles
abbrev pub first_of : Plan → ℕ → ℕ
first_of plan k = unwrap_or (option_map (λ e. e.shape.first) (slice_get plan.epochs k))
    (all_cycles plan)

-- the channels of a node's wave, 0 without one
abbrev pub wave_channels_of : List WavIn → ℕ → ℕ
wave_channels_of waves n = unwrap_or
    (option_map (λ w. w.wav.channels) (find (λ w. w.node == n) waves)) 0

-- THE STATE OF A NODE n in epoch k, before the cycle c: it is made for all cycles that the node
-- works in the run, has the channels that the epoch gives its first input, and stands for what the
-- node has received. A cycle that begins an epoch begins after the node was released, if it is. A
-- plan without an epoch may have any quantum
pub record IsNodeState (run_model : RunModel) (k c n : ℕ) (s : NodeState) : Type 0 where
  pub kind : node_kind s ≡ kind_at run_model.plan.value n
  pub wave : node_wave_channels s ≡ wave_channels_of run_model.waves.value n
  pub quantum : 0 < length run_model.plan.value.epochs
      → node_quantum s ≡ run_model.plan.value.quantum
  pub frames : frames_so_far s ≡ run_model.plan.value.quantum * worked run_model.plan.value n c
  pub prepared : prepared_frames s
      ≡ run_model.plan.value.quantum * worked run_model.plan.value n
      (all_cycles run_model.plan.value)
  pub most : (j channels : ℕ) → Names run_model.plan.value j n channels
      → channels ≤ most_channels s
  pub channels : (j channels : ℕ) → j ≤ k → Names run_model.plan.value j n channels
      → StaysFrom run_model.plan.value j k n → 0 < input_count (kind_at run_model.plan.value n)
      → node_channels s ≡ channels
  pub begun : c ≡ first_of run_model.plan.value k → HasReceivedBefore run_model c n s
  pub done : c ≢ first_of run_model.plan.value k → HasReceivedUntil run_model c n s

-- the node n works in the cycle c, which lies in epoch k
pub record IsWorkedIn (run_model : RunModel) (k c n : ℕ) : Type 0 where
  pub sound : IsSoundPlan run_model.plan.value
  pub waves : WavesFit run_model.plan.value run_model.waves.value
  pub place : n < length run_model.plan.value.nodes
  pub epoch : Epoch
  pub at : IsEpoch run_model.plan.value k epoch
  pub from : epoch.shape.first ≤ c
  pub to : c < epoch.shape.first + epoch.shape.cycles
  pub works : works_in epoch n ≡ true

-- a row for an output that the kind has, one quantum in the channels of its form; or an empty one
abbrev pub IsOutputRow : Plan → Epoch → ℕ → ℕ → List ℤ → Type 0
IsOutputRow plan e n o row = (length row ≡ 0) ⊎ ((o < output_count (kind_at plan n))
    × (length row ≡ plan.quantum * output_channels plan e n o))

-- ONE CYCLE of the node asks for its state, for what its inputs get, and for rows for its outputs
pub record MayWork (run_model : RunModel) (k c n : ℕ) (s : NodeState)
    (a b left right : List ℤ) : Type 0 where
  pub works : IsWorkedIn run_model k c n
  pub state : IsNodeState run_model k c n s
  pub a_is : a ≡ receives run_model c n 0
  pub b_is : b ≡ receives run_model c n 1
  pub left_fits : IsOutputRow run_model.plan.value works.epoch n 0 left
  pub right_fits : IsOutputRow run_model.plan.value works.epoch n 1 right
