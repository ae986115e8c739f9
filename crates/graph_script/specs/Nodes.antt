-- Nodes and ports that the lines so far have made, by name. Source: the order of the causes is this
-- project's own.
use Rattle.std.specs.Prelude.{ℕ, ◌+◌, ◌||◌, Bool, true, false, not, List, ◌++◌, length, Option, option_map, is_some, ok_or, Ok, Err}
use Rattle.std.specs.Prelude.{position, slice_index_or, bytes_eq, codes, if◌then◌else◌}
use Rattle.pw_graph.specs.declared.ids.PortId.{PortId}
use Rattle.pw_graph.specs.declared.kind.Kind.{Kind}
use Rattle.pw_graph.specs.declared.kind.Kind.TheVariants as K
use Rattle.pw_graph.specs.KindPorts.{input_names, output_names, input_count}
use Rattle.graph_script.specs.declared.fault.ScriptWhy.TheVariants as W
use Rattle.graph_script.specs.declared.reading.Reading.{Reading}
use Rattle.graph_script.specs.Arguments.{is_node_name, endpoint_parts}
use Rattle.graph_script.specs.Checked.{Checked, ◌>>=◌}

-- the number of the node of this name, and the kind of a node
abbrev pub node_called : Reading → List ℕ → Option ℕ
node_called reading name = position (bytes_eq name) reading.script.names

abbrev pub kind_at : Reading → ℕ → Kind
kind_at reading node = slice_index_or reading.kinds node K.Dummy

-- a name that no new node may have: a node's, or that of the built-in driver
abbrev pub is_taken : Reading → List ℕ → Bool
is_taken reading name = bytes_eq name (codes "dummy") || is_some (node_called reading name)

-- the name of a new node: its form, then whether it is taken; the new node has the next number
abbrev pub new_arg : Reading → List ℕ → Checked ℕ
new_arg reading word =
    if not (is_node_name word) then Err W.NameForm
    else (if is_taken reading word then Err W.NameTaken else Ok (length reading.script.names))

-- the name of a node that is there: its form, then the node
abbrev pub node_arg : Reading → List ℕ → Checked ℕ
node_arg reading word =
    if not (is_node_name word) then Err W.NameForm
    else ok_or (node_called reading word) W.NameUnknown

-- the number of a port of this name, of an output, and of an input
abbrev pub port_called : Kind → List ℕ → Option ℕ
port_called kind name = position (bytes_eq name) (input_names kind ++ output_names kind)

abbrev pub output_called : Kind → List ℕ → Option ℕ
output_called kind name =
    option_map (λ place. input_count kind + place) (position (bytes_eq name) (output_names kind))

abbrev pub input_called : Kind → List ℕ → Option ℕ
input_called kind name = position (bytes_eq name) (input_names kind)

-- a port of a node, each named by a word: the node, then the port
abbrev pub port_arg : Reading → List ℕ → List ℕ → Checked PortId
port_arg reading name port_name = do
  node ← node_arg reading name
  port ← ok_or (port_called (kind_at reading node) port_name) W.PortUnknown
  Ok (record { node = node; port = port })

-- an endpoint, whose port is looked up by the function: its form, then the node, then the port
abbrev pub endpoint_arg : (Kind → List ℕ → Option ℕ) → Reading → List ℕ
    → Checked PortId
endpoint_arg called reading word = do
  parts ← ok_or (endpoint_parts word) W.NameForm
  node ← node_arg reading parts.0
  port ← ok_or (called (kind_at reading node) parts.1) W.PortUnknown
  Ok (record { node = node; port = port })

-- a sink and a meter may drive
abbrev pub may_drive : Kind → Bool
may_drive K.Sink = true
may_drive K.Meter = true
may_drive _ = false
