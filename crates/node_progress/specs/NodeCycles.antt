-- What one cycle of a node's state asks for, by its slices and by what it stands for.
-- Source: PipeWire's documentation, "Graph Scheduling": a node runs after those it depends on.
use Rattle.std.specs.Prelude.{◌≡◌, ℕ, ◌+◌, ◌*◌, ◌⊎◌, List, ℤ, length, filter, true, Some}
use Rattle.std.specs.List.{range_with_len}
use Rattle.pw_graph.specs.declared.plan.Plan.{Plan}
use Rattle.pw_graph.specs.declared.plan.Epoch.{Epoch}
use Rattle.pw_graph.specs.KindPorts.{input_count}
use Rattle.pw_graph.specs.PlanForms.{kind_at}
use Rattle.cycle_model.specs.Epochs.{epoch_at, is_active, channels_of}
use Rattle.cycle_model.specs.Mixing.{takes_part}
use Rattle.cycle_model.specs.Renderable.{IsRenderable}
use Rattle.node_state.specs.declared.node_state.NodeState.{NodeState}
use Rattle.node_state.specs.StandsFor.{IsQuantum, HasFramesLeft, node_kind, node_quantum, frames_so_far}
use Rattle.node_progress.specs.declared.run_model.RunModel.{RunModel}
use Rattle.node_progress.specs.Standing.{port_at, out_channels, HasReceivedBefore, receives}

-- the channels of an output of the node
abbrev pub output_channels : Plan → Epoch → ℕ → ℕ → ℕ
output_channels plan e n o = channels_of e.forms (port_at n (input_count (kind_at plan n) + o))

-- a row for an output: of the form's length, where the form's channels are the state's; or empty
abbrev pub FitsOutput : Plan → Epoch → ℕ → NodeState → ℕ → List ℤ → Type 0
FitsOutput plan e n s o row = (length row ≡ 0) ⊎
    ((length row ≡ plan.quantum * output_channels plan e n o)
    × (output_channels plan e n o ≡ out_channels s))

-- a node without an input has been active as often as it has worked
abbrev pub HasItsFrames : Plan → ℕ → ℕ → NodeState → Type 0
HasItsFrames plan c n s = input_count (kind_at plan n) ≡ 0
    → frames_so_far s ≡ plan.quantum * length
    (filter (λ k. is_active plan k n) (range_with_len 0 c))

-- the state of the node n, active in the cycle c of its epoch, stands at it
pub record IsReadyAt (run_model : RunModel) (c n : ℕ) (s : NodeState) : Type 0 where
  pub renderable : IsRenderable run_model.plan.value run_model.waves.value
  pub epoch : Epoch
  pub here : epoch_at run_model.plan.value c ≡ Some epoch
  pub active : takes_part epoch n ≡ true
  pub kind : node_kind s ≡ kind_at run_model.plan.value n
  pub quantum : node_quantum s ≡ run_model.plan.value.quantum
  pub before : HasReceivedBefore run_model c n s
  pub frames : HasItsFrames run_model.plan.value c n s
  pub some : HasFramesLeft s

-- and the rows are what its inputs get
pub record MayProcess (run_model : RunModel) (c n : ℕ) (s : NodeState)
    (a b left right : List ℤ) : Type 0 where
  pub ready : IsReadyAt run_model c n s
  pub slices : IsQuantum s a b left right
  pub a_is : a ≡ receives run_model c n 0
  pub b_is : b ≡ receives run_model c n 1
  pub left_fits : FitsOutput run_model.plan.value ready.epoch n s 0 left
  pub right_fits : FitsOutput run_model.plan.value ready.epoch n s 1 right
