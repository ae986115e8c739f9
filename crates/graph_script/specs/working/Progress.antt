-- What is kept beside the lines so far, and a new node before memory is taken for its name.
-- Source: this project's own.
use Rattle.std.specs.Prelude.{ℕ, ◌+◌, ◌<◌, Bool, true, List, All, Some, Result, Ok, Err, set, if◌then◌else◌}
use Rattle.graph_script.specs.declared.fault.ScriptFault.{ScriptFault}
use Rattle.graph_script.specs.declared.command.Command.{Command}
use Rattle.graph_script.specs.declared.command.Command.TheVariants as C
use Rattle.graph_script.specs.declared.reading.NewNode.{NewNode}
use Rattle.graph_script.specs.declared.reading.ParsedLine.{ParsedLine}
use Rattle.graph_script.specs.declared.reading.Reading.{Reading}
use Rattle.graph_script.specs.declared.progress.Progress.{Progress}
use Rattle.graph_script.specs.Earlier.{is_epoch}

-- what a line says that makes this node
abbrev pub parsed_of : NewNode → ParsedLine
parsed_of new =
    record { command = new.command; made = Some (record { name = new.name.now; kind = new.kind }) }

-- the nodes that are linked after a command
abbrev pub marked : List Bool → Command → List Bool
marked linked (C.Link from to) = set (set linked from.node true) to.node true
marked linked _ = linked

-- the epochs after a command
abbrev pub counted : ℕ → Command → ℕ
counted epochs command = if is_epoch command then epochs + 1 else epochs

-- what has been read, without what is kept beside it
abbrev pub reading_in : Result Progress ScriptFault → Result Reading ScriptFault
reading_in (Ok progress) = Ok progress.reading
reading_in (Err fault) = Err fault

-- the lines so far have lower numbers
abbrev pub AreBefore : ℕ → Reading → Type 0
AreBefore number reading = All (λ l. l.line < number) reading.script.lines
