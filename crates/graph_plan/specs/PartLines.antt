-- The lines of a part: those that make a node, so that all nodes keep their numbers, and those
-- that name only nodes of the part.
-- Source: this project's.
use Rattle.std.specs.Prelude.{ℕ, ◌||◌, Bool, List, [], ◌∷◌, filter}
use Rattle.std.specs.List.{list_all}
use Rattle.std.specs.Option.{is_some}
use Rattle.graph_script.specs.declared.command.Command.{Command}
use Rattle.graph_script.specs.declared.command.Command.TheVariants as C
use Rattle.graph_script.specs.declared.script.Line.{Line}
use Rattle.graph_script.specs.declared.script.Script.{Script}
use Rattle.graph_script.specs.Kinds.{made_by}
use Rattle.graph_plan.specs.Parts.{is_among}

-- the nodes that a command names, of which it makes no node
abbrev pub named_by : Command → List ℕ
named_by (C.Driver node priority) = node ∷ []
named_by (C.Loop node k) = node ∷ []
named_by (C.Offer port file) = port.node ∷ []
named_by (C.Buffers port n) = port.node ∷ []
named_by (C.Link from to) = from.node ∷ to.node ∷ []
named_by (C.Unlink from to) = from.node ∷ to.node ∷ []
named_by (C.On node) = node ∷ []
named_by (C.Off node) = node ∷ []
named_by (C.Async node) = node ∷ []
named_by _ = []

-- a line of the part of these nodes
abbrev pub is_line_of : List ℕ → Line → Bool
is_line_of nodes l =
    is_some (made_by l.command) || list_all (is_among nodes) (named_by l.command)

-- THE LINES of a part, and its script
abbrev pub part_lines : List ℕ → List Line → List Line
part_lines nodes lines = filter (is_line_of nodes) lines

abbrev pub part_script : List ℕ → Script → Script
part_script nodes script = record script { lines = part_lines nodes script.lines }
