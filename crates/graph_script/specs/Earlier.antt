-- What earlier lines forbid: a name is linked, or there are as many nodes or epochs as there may
-- be. Source: the limits are this project's own.
use Rattle.std.specs.Prelude.{ℕ, ◌==◌, ◌||◌, Bool, true, false, List, length, count_by, Some, None, Ok, Err, nat_lt}
use Rattle.std.specs.Prelude.{if◌then◌else◌}
use Rattle.std.specs.List.{list_any}
use Rattle.pw_lists.specs.declared.limit.Which.TheVariants as L
use Rattle.pw_graph.specs.declared.kind.Kind.{Kind}
use Rattle.graph_script.specs.declared.fault.ScriptWhy.TheVariants as W
use Rattle.graph_script.specs.declared.command.Command.{Command}
use Rattle.graph_script.specs.declared.command.Command.TheVariants as C
use Rattle.graph_script.specs.declared.reading.ParsedLine.{ParsedLine}
use Rattle.graph_script.specs.declared.reading.Reading.{Reading}
use Rattle.graph_script.specs.Limits.{nodes_limit, epochs_limit}
use Rattle.graph_script.specs.Checked.{Checked}

-- whether a command is a link line that names the node
abbrev pub names_link : ℕ → Command → Bool
names_link node (C.Link from to) = from.node == node || to.node == node
names_link node _ = false

-- whether an earlier link line names the node, whatever became of the link
abbrev pub is_linked : Reading → ℕ → Bool
is_linked reading node = list_any (λ l. names_link node l.command) reading.script.lines

-- a line that makes an epoch, and how many such lines there are
abbrev pub is_epoch : Command → Bool
is_epoch (C.Cycles n) = true
is_epoch C.Drain = true
is_epoch _ = false

abbrev pub epochs_so_far : Reading → ℕ
epochs_so_far reading = count_by (λ l. is_epoch l.command) reading.script.lines

-- a command that makes neither a node nor an epoch
abbrev pub saying : Command → Checked ParsedLine
saying command = Ok (record { command = command; made = None })

-- one that makes an epoch, where there is room for it
abbrev pub making_epoch : Reading → Command → Checked ParsedLine
making_epoch reading command =
    if nat_lt (epochs_so_far reading) epochs_limit then saying command else Err (W.TooMany L.Epochs)

-- one that makes a node of this name and kind, where there is room for it
abbrev pub making : Reading → Command → List ℕ → Kind → Checked ParsedLine
making reading command name kind =
    if nat_lt (length reading.script.names) nodes_limit
    then Ok (record { command = command; made = Some (record { name = name; kind = kind }) })
    else Err (W.TooMany L.Nodes)
