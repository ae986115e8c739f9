-- Stands for: what a state keeps between quanta, and what its node has received so far.
-- Source: the graph's nodes of PipeWire's documentation, "Graph Scheduling"; the kinds are this
-- project's.
use Rattle.std.specs.Prelude.{◌≡◌, ℕ, ◌*◌, ◌%◌, ◌≤◌, min, List, [], ◌++◌, length, take, drop, ℤ, ◌⊎◌}
use Rattle.pw_lists.specs.Samples.{silence, peak_of}
use Rattle.pw_graph.specs.KindFunction.{KindInputs}
use Rattle.node_state.specs.declared.kind_state.KindState.{KindState}
use Rattle.node_state.specs.declared.kind_state.KindState.TheVariants.{Source, Square, Gain, Mix2, Delay, Map, Split, Sink, Meter}
use Rattle.node_state.specs.declared.node_state.NodeState.{NodeState}
use Rattle.node_state.specs.Slices.{HaveFrames}
pub use Rattle.node_state.specs.StateReadings.{node_kind, node_wave_channels, kept_stream, node_quantum, frames_so_far, prepared_frames, node_channels, most_channels, HasFramesLeft}

-- by the channels at the first input and the frames prepared: the file's beginning and the place in
-- it; the place in the period; the samples not yet given, in a line no longer than the frames to
-- come; the stream; the peak. The other kinds keep nothing, of inputs in whole frames
abbrev pub Keeps : KindState → ℕ → ℕ → KindInputs → Type 0
Keeps (Source s) channels prepared h =
    (s.channels ≡ h.channels) × (s.samples ≡ take (prepared * s.channels) h.wave)
    × (s.given ≡ min (h.frames * s.channels) (length s.samples))
Keeps (Square s) channels prepared h = (s.wave.channels ≡ h.channels)
    × (s.phase ≡ h.frames % s.wave.period)
Keeps (Gain s) channels prepared h = Unit {0}
Keeps (Mix2 s) channels prepared h = length h.a ≡ length h.b
Keeps (Delay s) channels prepared h = (channels ≡ h.channels)
    × (length h.a ≤ h.frames * channels) × (s.long ≡ min s.frames prepared)
    × (s.samples ≡ drop (length h.a) (silence (s.long * channels) ++ h.a))
Keeps (Map s) channels prepared h = length h.a % s.channels ≡ 0
Keeps (Split s) channels prepared h = length h.a % 2 ≡ 0
Keeps (Sink s) channels prepared h = s.list ≡ h.a
Keeps (Meter s) channels prepared h = s.peak ≡ peak_of h.a

-- STANDS FOR
abbrev pub StandsFor : NodeState → KindInputs → Type 0
StandsFor s h = (s.frames ≡ h.frames) × Keeps s.state s.channels s.prepared h

-- one quantum at each port, or none at any that has no form
abbrev pub IsQuantum : NodeState → List ℤ → List ℤ → List ℤ → List ℤ → Type 0
IsQuantum s a b left right =
    HaveFrames s.quantum (node_kind s) (node_wave_channels s) s.channels a b left right
    ⊎ HaveFrames 0 (node_kind s) (node_wave_channels s) s.channels a b left right

-- what a new state was prepared for
abbrev pub IsPrepared : ℕ → ℕ → ℕ → NodeState → Type 0
IsPrepared channels quantum frames s =
    (s.channels ≡ channels) × (s.most ≡ channels) × (s.quantum ≡ quantum)
    × (s.frames ≡ 0) × (s.prepared ≡ frames)

-- what no quantum changes
abbrev pub IsSameNode : NodeState → NodeState → Type 0
IsSameNode s t =
    (node_kind t ≡ node_kind s) × (node_wave_channels t ≡ node_wave_channels s)
    × (t.quantum ≡ s.quantum) × (t.channels ≡ s.channels) × (t.most ≡ s.most)
    × (t.prepared ≡ s.prepared)

-- nor a stream begun anew
abbrev pub IsRestarted : NodeState → NodeState → Type 0
IsRestarted s t =
    (node_kind t ≡ node_kind s) × (node_wave_channels t ≡ node_wave_channels s)
    × (kept_stream t ≡ [])
    × (t.quantum ≡ s.quantum) × (t.most ≡ s.most) × (t.frames ≡ s.frames)
    × (t.prepared ≡ s.prepared)
