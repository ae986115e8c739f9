-- The commands that make a node with a file, each by its arguments. Source: the form is this
-- project's own.
use Rattle.std.specs.Prelude.{ℕ, List, Ok}
use Rattle.pw_graph.specs.declared.kind.Kind.TheVariants as K
use Rattle.graph_script.specs.declared.command.Command.TheVariants as C
use Rattle.graph_script.specs.declared.reading.ParsedLine.{ParsedLine}
use Rattle.graph_script.specs.declared.reading.Reading.{Reading}
use Rattle.graph_script.specs.Checked.{Checked, ◌>>=◌, two_args, file_arg}
use Rattle.graph_script.specs.Nodes.{new_arg}
use Rattle.graph_script.specs.Earlier.{making}

-- a new node with a file: its number, its name and the file
abbrev pub node_and_file : Reading → List (List ℕ) → Checked (ℕ × List ℕ × List ℕ)
node_and_file reading words = do
  args ← two_args words
  node ← new_arg reading args.0
  file ← file_arg args.1
  Ok (node, args.0, file)

abbrev pub source_of : Reading → List (List ℕ) → Checked ParsedLine
source_of reading words = do
  new ← node_and_file reading words
  making reading (C.Source new.0 new.2) new.1 K.Source

abbrev pub sink_of : Reading → List (List ℕ) → Checked ParsedLine
sink_of reading words = do
  new ← node_and_file reading words
  making reading (C.Sink new.0 new.2) new.1 K.Sink
