-- What the lines of a script ask for, where a note turns on it. Source: this project's own.
use Rattle.std.specs.Prelude.{ℕ, ◌||◌, Bool, true, false, List, bytes_eq}
use Rattle.std.specs.List.{list_any}
use Rattle.pw_graph.specs.declared.ids.PortId.{PortId}
use Rattle.pw_graph.specs.Pools.{is_same_port}
use Rattle.graph_script.specs.declared.command.Command.{Command}
use Rattle.graph_script.specs.declared.command.Command.TheVariants as C
use Rattle.graph_script.specs.declared.script.Line.{Line}

-- a command with two ends, of which the plan says what it did
abbrev pub has_ends : Command → Bool
has_ends (C.Link from to) = true
has_ends (C.Unlink from to) = true
has_ends _ = false

-- a command that makes cycles, and one that makes them while active sources have frames
abbrev pub is_cycles : Command → Bool
is_cycles (C.Cycles n) = true
is_cycles _ = false

abbrev pub is_drain : Command → Bool
is_drain C.Drain = true
is_drain _ = false

-- WHETHER there are cycles, and whether there may be
abbrev pub has_cycles : List Line → Bool
has_cycles lines = list_any (λ line. is_cycles line.command) lines

abbrev pub has_drain : List Line → Bool
has_drain lines = list_any (λ line. is_drain line.command) lines

abbrev pub may_have_cycles : List Line → Bool
may_have_cycles lines = has_cycles lines || has_drain lines

-- WHETHER a source reads a file
abbrev pub reads : List ℕ → Command → Bool
reads file (C.Source node name) = bytes_eq name file
reads file _ = false

abbrev pub is_read : List Line → List ℕ → Bool
is_read lines file = list_any (λ line. reads file line.command) lines

-- WHETHER a line links something to an input of a node
abbrev pub links_to : PortId → Command → Bool
links_to port (C.Link from to) = is_same_port to port
links_to port _ = false

abbrev pub has_link_to : List Line → ℕ → ℕ → Bool
has_link_to lines node input =
    list_any (λ line. links_to (record { node = node; port = input }) line.command) lines
