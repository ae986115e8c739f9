-- What the nodes of a loop keep, at any time and at the end of the run.
-- Source: this project's own: sinks keep the streams that they receive, meters their peaks.
use Rattle.std.specs.Prelude.{◌≡◌, ◌≢◌, ℕ, ℤ, ◌<◌, List, length, slice_index_or}
use Rattle.pw_graph.specs.KindFunction.{KindInputs}
use Rattle.pw_lists.specs.Samples.{peak_of}
use Rattle.cycle_model.specs.Rendering.{end_stream}
use Rattle.node_state.specs.declared.node_state.NodeState.{NodeState}
use Rattle.node_state.specs.StandsFor.{StandsFor, node_kind, kept_stream}
use Rattle.node_state.specs.Streams.{peak_kept_by}
use Rattle.node_progress.specs.Ends.{IsNodeAtEnd}
use Rattle.data_loop.specs.declared.loop_state.LoopState.{LoopState}
use Rattle.data_loop.specs.Loops.{plan_of, node_at, IsBetweenEpochs}
use Rattle.data_loop.specs.LoopWay.{IsSameLoop}

-- the state of a node of the loop
abbrev pub IsStateOf : LoopState → ℕ → NodeState → Type 0
IsStateOf s n x = (j : ℕ) × (j < length s.nodes) × (node_at s j ≡ n)
    × ((d : NodeState) → slice_index_or s.states.items j d ≡ x)

-- all epochs are done
abbrev pub IsDone : LoopState → Type 0
IsDone s = IsBetweenEpochs s × (s.epoch ≡ length (plan_of s).epochs)

-- of this node they are, whatever became of the states of others
abbrev pub IsDoneWith : LoopState → ℕ → Type 0
IsDoneWith s n = (j : ℕ) (d : NodeState) → j < length s.nodes → node_at s j ≡ n
    → IsNodeAtEnd s.run_model n (slice_index_or s.states.items j d)

-- the stream is what the sink's state has kept; at the end of the run, the sink's whole stream
abbrev pub Keeps : LoopState → ℕ → List ℤ → Type 0
Keeps s n stream = (x : NodeState) × IsStateOf s n x × (stream ≡ kept_stream x)

abbrev pub KeepsAtEnd : LoopState → ℕ → List ℤ → Type 0
KeepsAtEnd s n stream = IsDone s → stream ≡ end_stream (plan_of s) s.run_model.waves.value n

-- the number is the peak of all that the meter's state stands for; at the end of the run, that of
-- the meter's whole stream
abbrev pub HasPeak : LoopState → ℕ → ℕ → Type 0
HasPeak s n peak = (x : NodeState) × IsStateOf s n x
    × ((h : KindInputs) → StandsFor x h → peak ≡ peak_kept_by (node_kind x) h)

-- the stream was moved out of the sink's state: its whole stream, where all epochs are done. The
-- others' states are as they were, and all else of the loop is
pub record HasTaken (s : LoopState) (n : ℕ) (stream : List ℤ) (t : LoopState) : Type 0 where
  pub keeps : Keeps s n stream
  pub end : IsDoneWith s n → stream ≡ end_stream (plan_of s) s.run_model.waves.value n
  pub others : (m : ℕ) → m ≢ n → IsDoneWith s m → IsDoneWith t m
  pub same : IsSameLoop s t
  pub states_alone : t ≡ record s { states = t.states }

abbrev pub HasPeakAtEnd : LoopState → ℕ → ℕ → Type 0
HasPeakAtEnd s n peak = IsDone s → peak ≡ peak_of (end_stream (plan_of s) s.run_model.waves.value n)
