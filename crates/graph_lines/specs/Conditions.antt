-- The graph before a line: the nodes and ports that it names are there, and the links of the
-- graph are those of its wires.
-- Source: this project's script grammar.
use Rattle.std.specs.Prelude.{◌≡◌, ◌<◌, length, map}
use Rattle.pw_graph.specs.SoundShape.{IsBetween}
use Rattle.graph_script.specs.declared.command.Command.{Command}
use Rattle.graph_script.specs.declared.command.Command.TheVariants as C
use Rattle.graph_script.specs.Ranges.{HasNodes}
use Rattle.port_model.specs.PortState.{IsPort, IsInput, IsOutput}
use Rattle.link_negotiation.specs.Links.{link_of}
use Rattle.graph_lines.specs.declared.graph.Graph.{Graph}

-- the links of a graph are those of its wires
abbrev pub AreWired : Graph → Type 0
AreWired g = map (λ w. link_of w.from w.to) g.wires ≡ g.links.made

-- a line may be here: its nodes and ports are there, and it makes no epoch
abbrev pub MayDo : Graph → Command → Type 0
MayDo g (C.Buffers port n) = IsPort g.ports port × IsBetween 1 8 n
MayDo g (C.Link from to) = IsOutput g.ports from × IsInput g.ports to
MayDo g (C.Unlink from to) = IsOutput g.ports from × IsInput g.ports to
    × (from.node < length g.nodes) × (to.node < length g.nodes)
MayDo g (C.Cycles n) = ⊥
MayDo g C.Drain = ⊥
MayDo g command = HasNodes (length g.nodes) command

-- what a line may do; for a line that makes no epoch, `MayDo`
abbrev pub MayStep : Graph → Command → Type 0
MayStep g (C.Cycles n) = Unit {0}
MayStep g C.Drain = Unit {0}
MayStep g command = MayDo g command
