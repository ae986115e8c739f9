-- What a node's state stands for, by the cycle function, and what goes in and out of the node in a
-- cycle.
-- Source: PipeWire's documentation, "Graph Scheduling": a node runs after those it depends on.
use Rattle.std.specs.Prelude.{◌≡◌, ℕ, ◌+◌, ◌*◌, ◌==◌, ◌&&◌, ◌||◌, Bool, false, not, ◌⊎◌, List, [], ℤ, length, filter}
use Rattle.std.specs.Prelude.{nat_lt, option_map, unwrap_or, if◌then◌else◌}
use Rattle.std.specs.List.{list_any, range_with_len}
use Rattle.pw_graph.specs.declared.ids.PortId.{PortId}
use Rattle.pw_graph.specs.declared.plan.Plan.{Plan}
use Rattle.pw_graph.specs.declared.plan.Epoch.{Epoch}
use Rattle.pw_graph.specs.KindPorts.{input_count}
use Rattle.pw_graph.specs.PlanForms.{kind_at}
use Rattle.pw_graph.specs.Pools.{is_same_port}
use Rattle.cycle_model.specs.declared.received.Received.{Received}
use Rattle.pw_graph.specs.KindFunction.{KindInputs}
use Rattle.cycle_model.specs.Epochs.{epoch_at, channels_at}
use Rattle.cycle_model.specs.Cycle.{wave_of, outputs, input_of}
use Rattle.cycle_model.specs.Mixing.{takes_part}
use Rattle.cycle_model.specs.KindSamples.{kind_inputs_of}
use Rattle.cycle_model.specs.Progress.{received_until, received_before}
use Rattle.node_state.specs.declared.node_state.NodeState.{NodeState}
use Rattle.node_state.specs.Slices.{left_channels}
use Rattle.node_state.specs.StandsFor.{StandsFor, node_kind, node_wave_channels, node_channels, frames_so_far}
use Rattle.node_progress.specs.declared.run_model.RunModel.{RunModel}

-- a port of a node
abbrev pub port_at : ℕ → ℕ → PortId
port_at n i = record { node = n; port = i }

-- the channels at the outputs of a node, as its state has them
abbrev pub out_channels : NodeState → ℕ
out_channels s = left_channels (node_kind s) (node_wave_channels s) (node_channels s)

-- what the state works with, where it has received this. It counts the frames itself: those of the
-- cycles that it worked
abbrev pub read_by : RunModel → ℕ → NodeState → Received → KindInputs
read_by run_model n s r = record (kind_inputs_of (wave_of run_model.waves.value n)
    (out_channels s) r) { frames = frames_so_far s }

-- the node's state stands for what it has received as the cycle c begins, or after `cycles` cycles
abbrev pub HasReceivedBefore : RunModel → ℕ → ℕ → NodeState → Type 0
HasReceivedBefore run_model c n s = StandsFor s (read_by run_model n s
    (received_before run_model.plan.value (outputs run_model.plan.value run_model.waves.value) c n))

abbrev pub HasReceivedUntil : RunModel → ℕ → ℕ → NodeState → Type 0
HasReceivedUntil run_model cycles n s = StandsFor s (read_by run_model n s
    (received_until run_model.plan.value (outputs run_model.plan.value run_model.waves.value)
    cycles n))

-- what an input of the node gets in the cycle c; nothing where the kind has no such input
abbrev pub receives : RunModel → ℕ → ℕ → ℕ → List ℤ
receives run_model c n i = if nat_lt i (input_count (kind_at run_model.plan.value n))
    then input_of run_model.plan.value (outputs run_model.plan.value run_model.waves.value) c
    (port_at n i)
    else []

-- how long that is
abbrev pub wide_at : Plan → ℕ → ℕ → ℕ → ℕ
wide_at plan c n i = if nat_lt i (input_count (kind_at plan n))
    then plan.quantum * channels_at plan c (port_at n i) else 0

-- what its output o gives in the cycle c
abbrev pub goes_out : RunModel → ℕ → ℕ → ℕ → List ℤ
goes_out run_model c n o = outputs run_model.plan.value run_model.waves.value c
    (port_at n (input_count (kind_at run_model.plan.value n) + o))

-- a row that was not empty has what the output gives
abbrev pub Gives : RunModel → ℕ → ℕ → ℕ → List ℤ → List ℤ → Type 0
Gives run_model c n o before row = (length before ≡ 0) ⊎ (row ≡ goes_out run_model c n o)

-- the node works in a cycle: it is active, and where it drives, its input has a form
abbrev pub works_in : Epoch → ℕ → Bool
works_in e n = takes_part e n
    && (not (e.shape.driver == n) || list_any (λ f. is_same_port f.port (port_at n 0)) e.forms)

abbrev pub works : Plan → ℕ → ℕ → Bool
works plan n c = unwrap_or (option_map (λ e. works_in e n) (epoch_at plan c)) false

-- in how many of the cycles before c
abbrev pub worked : Plan → ℕ → ℕ → ℕ
worked plan n c = length (filter (works plan n) (range_with_len 0 c))
