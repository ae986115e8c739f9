-- Ports as a script has made them so far: each node's kind, and of each port its own offer, its
-- format and its number of buffers. Source: PipeWire's documentation, "Objects Design", Port; what
-- of it is kept is this project's.
use Rattle.std.specs.Prelude.{◌≡◌, ℕ, zero, suc, ◌<◌, ◌≤◌, List, [], ◌∷◌, length, map, slice_get}
use Rattle.std.specs.Prelude.{Option, Some, None, IfSome, option_map}
use Rattle.std.specs.Option.{option_map_or}
use Rattle.pw_graph.specs.declared.ids.PortId.{PortId}
use Rattle.pw_graph.specs.declared.kind.Kind.{Kind}
use Rattle.pw_graph.specs.KindPorts.{input_count, port_count}
use Rattle.format_filter.specs.declared.format.Format.{Format}
use Rattle.port_model.specs.declared.port_state.PortState.{PortState}
use Rattle.port_model.specs.declared.port_state.Node.{Node}

-- the kind of a node, if it is there
abbrev pub kind_of : List Node → ℕ → Option Kind
kind_of nodes n = option_map (λ node. node.kind) (slice_get nodes n)

-- the ports of a node are numbered from 0, inputs first
abbrev pub port_count_of : List Node → ℕ → ℕ
port_count_of nodes n = option_map_or (λ node. port_count node.kind) (slice_get nodes n) 0

abbrev pub input_count_of : List Node → ℕ → ℕ
input_count_of nodes n = option_map_or (λ node. input_count node.kind) (slice_get nodes n) 0

-- a port that is there; an input and an output
abbrev pub IsPort : List Node → PortId → Type 0
IsPort nodes port = port.port < port_count_of nodes port.node

abbrev pub IsInput : List Node → PortId → Type 0
IsInput nodes port = port.port < input_count_of nodes port.node

abbrev pub IsOutput : List Node → PortId → Type 0
IsOutput nodes port = (input_count_of nodes port.node ≤ port.port) × IsPort nodes port

-- a place for the port among those of its node
abbrev pub HasPlace : List Node → PortId → Type 0
HasPlace nodes port = (port.node < length nodes)
    × ((node : Node) → slice_get nodes port.node ≡ Some node → port.port < length node.ports)

-- what holds of a port that is there, and of its node
abbrev pub AtPort : List Node → PortId → (Node → PortState → Type 0) → Type 0
AtPort nodes port P = IfSome (slice_get nodes port.node)
    (λ node. IfSome (slice_get node.ports port.port) (P node))

-- a list with one of its things changed
abbrev pub changed : {X : Type 0} → List X → ℕ → (X → X) → List X
changed [] i f = []
changed (x ∷ xs) zero f = f x ∷ xs
changed (x ∷ xs) (suc i) f = x ∷ changed xs i f

-- the same ports, of which one is changed
abbrev pub with_port : List Node → PortId → (PortState → PortState) → List Node
with_port nodes port f = changed nodes port.node
    (λ node. record node { ports = changed node.ports port.port f })

-- a port with another own offer, with a number of buffers, with a format, and without one
abbrev pub offering : Format → PortState → PortState
offering own s = record s { own = own }

abbrev pub buffered : ℕ → PortState → PortState
buffered n s = record s { buffers = Some n }

abbrev pub taking : Format → PortState → PortState
taking format s = record s { format = Some format }

abbrev pub released : PortState → PortState
released s = record s { format = None }

-- RELEASE: a node without the formats of its ports
abbrev pub with_released : List Node → ℕ → List Node
with_released nodes n = changed nodes n (λ node. record node { ports = map released node.ports })
