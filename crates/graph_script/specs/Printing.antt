-- The text of a script: each command on the line of its number. Source: this project's own.
use Rattle.std.specs.Prelude.{ℕ, ◌-◌, List, [], ◌∷◌, ◌++◌, map, decimal, slice_index_or, replicate}
use Rattle.std.specs.Fmt.{signed_decimal}
use Rattle.std.specs.List.{join_with_byte}
use Rattle.pw_graph.specs.declared.ids.PortId.{PortId}
use Rattle.pw_graph.specs.declared.kind.Kind.{Kind}
use Rattle.pw_graph.specs.KindPorts.{port_name}
use Rattle.graph_script.specs.declared.command.Command.{Command}
use Rattle.graph_script.specs.declared.command.Command.TheVariants as C
use Rattle.graph_script.specs.declared.script.Line.{Line}
use Rattle.graph_script.specs.declared.script.Script.{Script}
use Rattle.graph_script.specs.CommandWords.{command_word}
use Rattle.graph_script.specs.Kinds.{made_of, kind_in}

-- the word of a node, of a port, of an endpoint and of a list of channels
abbrev pub node_word : List (List ℕ) → ℕ → List ℕ
node_word names node = slice_index_or names node []

abbrev pub port_word : List Kind → PortId → List ℕ
port_word kinds port = port_name (kind_in kinds port.node) port.port

abbrev pub endpoint_word : List (List ℕ) → List Kind → PortId → List ℕ
endpoint_word names kinds port = node_word names port.node ++ 0x2E ∷ port_word kinds port

abbrev pub list_word : List ℕ → List ℕ
list_word list = join_with_byte 0x2C (map decimal list)

-- the arguments of a command, where the nodes have these names and kinds
abbrev pub args_of : List (List ℕ) → List Kind → Command → List (List ℕ)
args_of names kinds (C.Quantum n) = decimal n ∷ []
args_of names kinds (C.Source node file) = node_word names node ∷ file ∷ []
args_of names kinds (C.Square node rate channels period amp) =
    node_word names node ∷ decimal rate ∷ decimal channels ∷ decimal period
    ∷ signed_decimal amp ∷ []
args_of names kinds (C.Gain node g) = node_word names node ∷ signed_decimal g ∷ []
args_of names kinds (C.Mix2 node ga gb) =
    node_word names node ∷ signed_decimal ga ∷ signed_decimal gb ∷ []
args_of names kinds (C.Delay node frames) = node_word names node ∷ decimal frames ∷ []
args_of names kinds (C.Map node channels list) =
    node_word names node ∷ decimal channels ∷ list_word list ∷ []
args_of names kinds (C.Split node) = node_word names node ∷ []
args_of names kinds (C.Sink node file) = node_word names node ∷ file ∷ []
args_of names kinds (C.Meter node) = node_word names node ∷ []
args_of names kinds (C.Driver node priority) = node_word names node ∷ decimal priority ∷ []
args_of names kinds (C.Loop node k) = node_word names node ∷ decimal k ∷ []
args_of names kinds (C.Offer port file) =
    node_word names port.node ∷ port_word kinds port ∷ file ∷ []
args_of names kinds (C.Buffers port n) =
    node_word names port.node ∷ port_word kinds port ∷ decimal n ∷ []
args_of names kinds (C.Link from to) =
    endpoint_word names kinds from ∷ endpoint_word names kinds to ∷ []
args_of names kinds (C.Unlink from to) =
    endpoint_word names kinds from ∷ endpoint_word names kinds to ∷ []
args_of names kinds (C.On node) = node_word names node ∷ []
args_of names kinds (C.Off node) = node_word names node ∷ []
args_of names kinds (C.Cycles n) = decimal n ∷ []
args_of names kinds C.Drain = []
args_of names kinds (C.Async node) = node_word names node ∷ []

-- further words of a line, a space before each, and a whole line
abbrev pub spaced : List (List ℕ) → List ℕ
spaced [] = []
spaced (word ∷ words) = 0x20 ∷ word ++ spaced words

abbrev pub line_text : List (List ℕ) → List Kind → Command → List ℕ
line_text names kinds command = command_word command ++ spaced (args_of names kinds command)

-- the text from this line number on: a line feed for each line until the next command's
abbrev pub text_from : List (List ℕ) → List Kind → ℕ → List Line → List ℕ
text_from names kinds number [] = []
text_from names kinds number (line ∷ lines) =
    replicate (line.line - number) 0x0A ++ line_text names kinds line.command
    ++ text_from names kinds line.line lines

abbrev pub kinds_of : List Line → List Kind
kinds_of lines = map (λ m. m.1) (made_of lines)

-- THE TEXT of a script
abbrev pub text_of_script : Script → List ℕ
text_of_script script = text_from script.names (kinds_of script.lines) 1 script.lines
