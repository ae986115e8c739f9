-- What contracts read of a state: its kind, its stream, its channels, and the frames so far.
-- Source: this project's own.
use Rattle.std.specs.Prelude.{ℕ, ◌+◌, ◌≤◌, List, ℤ}
use Rattle.pw_graph.specs.declared.kind.Kind.{Kind}
use Rattle.node_state.specs.declared.node_state.NodeState.{NodeState}
use Rattle.node_state.specs.States.{kind_of, wave_channels, stream_of}

-- the kind of a node, the channels of its wave, and the stream that it keeps
abbrev pub node_kind : NodeState → Kind
node_kind s = kind_of s.state

abbrev pub node_wave_channels : NodeState → ℕ
node_wave_channels s = wave_channels s.state

abbrev pub kept_stream : NodeState → List ℤ
kept_stream s = stream_of s.state

-- the frames of a quantum, the frames so far and those prepared for, and the channels at the first
-- input: now, and the most
abbrev pub node_quantum : NodeState → ℕ
node_quantum s = s.quantum

abbrev pub frames_so_far : NodeState → ℕ
frames_so_far s = s.frames

abbrev pub prepared_frames : NodeState → ℕ
prepared_frames s = s.prepared

abbrev pub node_channels : NodeState → ℕ
node_channels s = s.channels

abbrev pub most_channels : NodeState → ℕ
most_channels s = s.most

-- one quantum more stays within the frames prepared
abbrev pub HasFramesLeft : NodeState → Type 0
HasFramesLeft s = s.frames + s.quantum ≤ s.prepared
