-- The cycle function: what each port receives and gives in each cycle, by whole streams.
-- Source: PipeWire's documentation, "Graph Scheduling": a node runs after those it depends on; the
-- kinds are this project's.
use Rattle.std.specs.Prelude.{ℕ, zero, suc, ◌+◌, ◌-◌, ◌*◌, ◌==◌, List, [], option_map, unwrap_or, map, fold, find, flat_map, length, drop}
use Rattle.std.specs.Prelude.{ℤ, if◌then◌else◌}
use Rattle.pw_graph.specs.declared.ids.PortId.{PortId}
use Rattle.pw_graph.specs.declared.shape.ShapeLink.{ShapeLink}
use Rattle.pw_graph.specs.declared.plan.Plan.{Plan}
use Rattle.pw_lists.specs.Samples.{clamped, silence, summed}
use Rattle.pw_graph.specs.KindFunction.{KindInputs, kind_output}
use Rattle.pw_graph.specs.KindPorts.{input_count}
pub use Rattle.pw_graph.specs.PlanForms.{kind_at}
use Rattle.wav_files.specs.declared.wav.WavIn.{WavIn}
use Rattle.cycle_model.specs.Epochs.{links_into, channels_at, first_at, active_cycles, stream_start, all_cycles}

-- the samples that each output port gives in each cycle
abbrev pub Outputs : Type 0
Outputs = ℕ → PortId → List ℤ

-- the samples of a node's wave, none without one
abbrev pub wave_of : List WavIn → ℕ → List ℤ
wave_of waves node = unwrap_or
    (option_map (λ w. w.wav.samples) (find (λ w. w.node == node) waves)) []

-- what a link brings: what was made in this cycle; a delayed one, in the cycle before, and zeros in
-- its epoch's first
abbrev pub brought : Plan → Outputs → ℕ → ShapeLink → List ℤ
brought plan out cycle link =
    if link.delayed then (if cycle == first_at plan cycle
    then silence (plan.quantum * link.channels)
    else out (cycle - 1) link.from)
    else out cycle link.from

-- PORT INPUT: the sum of all that its links bring, clamped once; silence without a link, nothing
-- without a form
abbrev pub input_of : Plan → Outputs → ℕ → PortId → List ℤ
input_of plan out cycle port =
    map clamped (fold summed (silence (plan.quantum * channels_at plan cycle port))
    (map (λ l. brought plan out cycle l) (links_into plan cycle port)))

-- PORT STREAM up to a cycle: its inputs in the cycles in which its node was active, since the
-- node's last release
abbrev pub stream_of : Plan → Outputs → ℕ → PortId → List ℤ
stream_of plan out cycle port =
    flat_map (λ k. input_of plan out k port)
    (active_cycles plan (stream_start plan cycle port.node) cycle port.node)

-- all that the node of an output port has received up to a cycle: its file, its active frames, its
-- inputs' streams
abbrev pub kind_inputs_at : Plan → List WavIn → Outputs → ℕ → PortId → KindInputs
kind_inputs_at plan waves out cycle port = record {
  wave = wave_of waves port.node;
  frames = plan.quantum * length (active_cycles plan 0 cycle port.node);
  channels = channels_at plan cycle port;
  a = stream_of plan out cycle (record port { port = 0 });
  b = stream_of plan out cycle (record port { port = 1 });
}

-- the last n samples
abbrev pub last_of : ℕ → List ℤ → List ℤ
last_of n row = drop (length row - n) row

-- NODE OUTPUT: the last quantum of the kind's function of all that the node has received
abbrev pub output_of : Plan → List WavIn → Outputs → ℕ → PortId → List ℤ
output_of plan waves out cycle port =
    last_of (plan.quantum * channels_at plan cycle port)
    (kind_output (kind_at plan port.node) (kind_inputs_at plan waves out cycle port)
    (port.port - input_count (kind_at plan port.node)))

-- what is known after n rounds, each of which works out every output from those known before it
unfoldable pub outputs_after : Plan → List WavIn → ℕ → Outputs
outputs_after plan waves zero = λ cycle port. []
outputs_after plan waves (suc rounds) = λ cycle port. output_of plan waves
    (outputs_after plan waves rounds) cycle port

-- THE CYCLE FUNCTION: no output waits for a longer chain than the 64 nodes of each cycle up to its
-- own
abbrev pub outputs : Plan → List WavIn → Outputs
outputs plan waves = outputs_after plan waves (64 * (all_cycles plan + 1))
