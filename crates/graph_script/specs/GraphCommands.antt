-- The commands for cycles and for nodes that are there, each by its arguments and what earlier
-- lines forbid. Source: the ranges of the numbers are this project's own.
use Rattle.std.specs.Prelude.{ℕ, List, [], ◌∷◌, Err, if◌then◌else◌}
use Rattle.pw_lists.specs.Limits.{quantum_limit}
use Rattle.graph_script.specs.declared.fault.ScriptWhy.TheVariants as W
use Rattle.graph_script.specs.declared.command.Command.{Command}
use Rattle.graph_script.specs.declared.command.Command.TheVariants as C
use Rattle.graph_script.specs.declared.script.Line.{Line}
use Rattle.graph_script.specs.declared.reading.ParsedLine.{ParsedLine}
use Rattle.graph_script.specs.declared.reading.Reading.{Reading}
use Rattle.graph_script.specs.Limits.{priority_limit, loop_limit, cycles_limit}
use Rattle.graph_script.specs.Checked.{Checked, ◌>>=◌, no_args, one_arg, two_args, number_arg}
use Rattle.graph_script.specs.Nodes.{node_arg, kind_at, may_drive}
use Rattle.graph_script.specs.Earlier.{is_linked, saying, making_epoch}

-- a quantum is before every other command
abbrev pub first_only : List Line → Command → Checked ParsedLine
first_only [] command = saying command
first_only (line ∷ lines) command = Err W.QuantumLate

abbrev pub quantum_of : Reading → List (List ℕ) → Checked ParsedLine
quantum_of reading words = do
  word ← one_arg words
  n ← number_arg 1 quantum_limit word
  first_only reading.script.lines (C.Quantum n)

abbrev pub driver_of : Reading → List (List ℕ) → Checked ParsedLine
driver_of reading words = do
  args ← two_args words
  node ← node_arg reading args.0
  priority ← number_arg 0 priority_limit args.1
  if may_drive (kind_at reading node) then saying (C.Driver node priority) else Err W.NotDriverKind

abbrev pub loop_of : Reading → List (List ℕ) → Checked ParsedLine
loop_of reading words = do
  args ← two_args words
  node ← node_arg reading args.0
  k ← number_arg 0 loop_limit args.1
  saying (C.Loop node k)

-- the one argument is a node
abbrev pub node_of : Reading → List (List ℕ) → Checked ℕ
node_of reading words = do
  name ← one_arg words
  node_arg reading name

abbrev pub on_of : Reading → List (List ℕ) → Checked ParsedLine
on_of reading words = do
  node ← node_of reading words
  saying (C.On node)

abbrev pub off_of : Reading → List (List ℕ) → Checked ParsedLine
off_of reading words = do
  node ← node_of reading words
  saying (C.Off node)

abbrev pub async_of : Reading → List (List ℕ) → Checked ParsedLine
async_of reading words = do
  node ← node_of reading words
  if is_linked reading node then Err W.AsyncLate else saying (C.Async node)

abbrev pub cycles_of : Reading → List (List ℕ) → Checked ParsedLine
cycles_of reading words = do
  word ← one_arg words
  n ← number_arg 1 cycles_limit word
  making_epoch reading (C.Cycles n)

abbrev pub drain_of : Reading → List (List ℕ) → Checked ParsedLine
drain_of reading words = do
  none ← no_args words
  making_epoch reading C.Drain
