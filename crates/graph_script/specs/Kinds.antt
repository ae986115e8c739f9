-- Kinds: what the nodes of a script do, read off its lines, and that the ports of its commands are
-- there. Source: this project's own.
use Rattle.std.specs.Prelude.{◌≡◌, ℕ, ◌<◌, ◌≤◌, List, length, Option, Some, None, All, filter_map, slice_index_or}
use Rattle.std.specs.List.{enumerate_from}
use Rattle.pw_graph.specs.declared.ids.PortId.{PortId}
use Rattle.pw_graph.specs.declared.kind.Kind.{Kind}
use Rattle.pw_graph.specs.declared.kind.Kind.TheVariants as K
use Rattle.pw_graph.specs.KindPorts.{input_count, port_count}
use Rattle.graph_script.specs.declared.command.Command.{Command}
use Rattle.graph_script.specs.declared.command.Command.TheVariants as C
use Rattle.graph_script.specs.declared.script.Line.{Line}
use Rattle.graph_script.specs.declared.script.Script.{Script}

-- the node that a command makes, and its kind
abbrev pub made_by : Command → Option (ℕ × Kind)
made_by (C.Source node file) = Some (node, K.Source)
made_by (C.Square node rate channels period amp) = Some (node, K.Square rate channels period amp)
made_by (C.Gain node g) = Some (node, K.Gain g)
made_by (C.Mix2 node ga gb) = Some (node, K.Mix2 ga gb)
made_by (C.Delay node frames) = Some (node, K.Delay frames)
made_by (C.Map node channels list) = Some (node, K.Map channels list)
made_by (C.Split node) = Some (node, K.Split)
made_by (C.Sink node file) = Some (node, K.Sink)
made_by (C.Meter node) = Some (node, K.Meter)
made_by _ = None

-- the nodes that lines make, in their order
abbrev pub made_of : List Line → List (ℕ × Kind)
made_of lines = filter_map (λ l. made_by l.command) lines

-- a port of a node, an input and an output, where the nodes have these kinds by number
abbrev pub kind_in : List Kind → ℕ → Kind
kind_in kinds node = slice_index_or kinds node K.Dummy

abbrev pub IsPort : List Kind → PortId → Type 0
IsPort kinds port = port.port < port_count (kind_in kinds port.node)

abbrev pub IsInput : List Kind → PortId → Type 0
IsInput kinds port = port.port < input_count (kind_in kinds port.node)

abbrev pub IsOutput : List Kind → PortId → Type 0
IsOutput kinds port = (input_count (kind_in kinds port.node) ≤ port.port) × IsPort kinds port

-- the ports of a command
abbrev pub HasPorts : List Kind → Command → Type 0
HasPorts kinds (C.Offer port file) = IsPort kinds port
HasPorts kinds (C.Buffers port n) = IsPort kinds port
HasPorts kinds (C.Link from to) = IsOutput kinds from × IsInput kinds to
HasPorts kinds (C.Unlink from to) = IsOutput kinds from × IsInput kinds to
HasPorts kinds _ = Unit {0}

-- each new node has the next number, each node has a name, and the ports are there
pub record HasKinds (script : Script) : Type 0 where
  pub kinds : List Kind
  pub made : made_of script.lines ≡ enumerate_from 0 kinds
  pub named : length kinds ≡ length script.names
  pub ports : All (λ l. HasPorts kinds l.command) script.lines
