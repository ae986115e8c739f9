-- How far the cycle function has got: what each node has received before and after a cycle, and
-- what ports gave in it.
-- Source: PipeWire's documentation, "Graph Scheduling": a node runs after those it depends on.
use Rattle.std.specs.Prelude.{◌≡◌, ℕ, zero, suc, ◌-◌, ◌*◌, ◌<◌, ◌≤◌, nat_lt, true, List, [], filter, flat_map, length, slice_index_or}
use Rattle.std.specs.Prelude.{ℤ, if◌then◌else◌}
use Rattle.std.specs.List.{range_with_len}
use Rattle.pw_graph.specs.declared.ids.PortId.{PortId}
use Rattle.pw_graph.specs.declared.plan.Plan.{Plan}
use Rattle.pw_graph.specs.KindPorts.{input_count, port_count}
use Rattle.pw_graph.specs.PlanForms.{kind_at}
use Rattle.cycle_model.specs.declared.received.Received.{Received}
use Rattle.cycle_model.specs.declared.received.Given.{Given}
use Rattle.cycle_model.specs.Epochs.{is_active, stream_start}
use Rattle.cycle_model.specs.Cycle.{Outputs, input_of, stream_of}
use Rattle.cycle_model.specs.working.Known.{given_at}

-- a port's stream after n cycles
abbrev pub streamed : Plan → Outputs → ℕ → PortId → List ℤ
streamed plan out zero port = []
streamed plan out (suc cycle) port = stream_of plan out cycle port

-- a port's stream as a cycle begins, after the node was released if it is
abbrev pub begun : Plan → Outputs → ℕ → PortId → List ℤ
begun plan out cycle port =
    flat_map (λ k. input_of plan out k port)
    (filter (λ k. is_active plan k port.node)
    (range_with_len (stream_start plan cycle port.node)
    (cycle - stream_start plan cycle port.node)))

-- what a node has received in n cycles, by the streams of its ports
abbrev pub received_with : Plan → ℕ → (PortId → List ℤ) → ℕ → Received
received_with plan cycles stream node = record {
  frames = plan.quantum * length (filter (λ k. is_active plan k node) (range_with_len 0 cycles));
  a = if nat_lt 0 (input_count (kind_at plan node)) then stream (record { node = node; port = 0 })
      else [];
  b = if nat_lt 1 (input_count (kind_at plan node)) then stream (record { node = node; port = 1 })
      else [];
}

-- after n cycles, and as the next one begins
abbrev pub received_until : Plan → Outputs → ℕ → ℕ → Received
received_until plan out cycles node = received_with plan cycles (streamed plan out cycles) node

abbrev pub received_before : Plan → Outputs → ℕ → ℕ → Received
received_before plan out cycle node = received_with plan cycle (begun plan out cycle) node

-- nothing is received yet
abbrev pub nothing : Received
nothing = record { frames = 0; a = []; b = [] }

-- a list has what each of the first `count` nodes has received
pub record AreReceived (count : ℕ) (f : ℕ → Received)
    (received : List Received) : Type 0 where
  pub counted : length received ≡ count
  pub each : (node : ℕ) → node < count → slice_index_or received node nothing ≡ f node

-- an output of a node of the plan
abbrev pub IsOutputOf : Plan → PortId → Type 0
IsOutputOf plan port = (input_count (kind_at plan port.node) ≤ port.port)
    × (port.port < port_count (kind_at plan port.node))

-- a list says what each output of an active node gave in a cycle; in the cycle before one
abbrev pub TellsCycle : Plan → Outputs → ℕ → List Given → Type 0
TellsCycle plan out cycle given = (port : PortId) → is_active plan cycle port.node ≡ true
    → IsOutputOf plan port
    → given_at given port ≡ out cycle port

abbrev pub TellsBefore : Plan → Outputs → ℕ → List Given → Type 0
TellsBefore plan out cycle given = (k : ℕ) → suc k ≡ cycle → TellsCycle plan out k given
