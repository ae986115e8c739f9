-- Why a node got no frames, in words, by the lines of a script and by what the plan of `run` says of
-- epochs and links. Source: the sentences are this project's own; a node gets frames in the cycles in
-- which it is active.
use Rattle.std.specs.Prelude.{ℕ, ◌==◌, ◌-◌, ◌||◌, Bool, true, false, List, [], ◌++◌, length, codes, slice_get, Option, Some, None, if◌then◌else◌}
use Rattle.std.specs.List.{list_any}
use Rattle.pw_lists.specs.Limits.{dummy_node}
use Rattle.pw_graph.specs.declared.plan.Epoch.{Epoch}
use Rattle.pw_graph.specs.declared.plan.LineOutcome.{LineOutcome}
use Rattle.pw_graph.specs.declared.plan.LineOutcome.TheVariants as O
use Rattle.pw_graph.specs.declared.plan.LinkLine.{LinkLine}
use Rattle.pw_graph.specs.declared.shape.Shape.{Shape}
use Rattle.graph_script.specs.declared.script.Line.{Line}
use Rattle.fault_messages.specs.NodeNames.{node_text}
use Rattle.fault_messages.specs.Places.{Words}
use Rattle.fault_messages.specs.ScriptLines.{has_cycles}

-- a node that is active in an epoch, and in any; and the last epoch
abbrev pub is_of : Shape → ℕ → Bool
is_of shape node = list_any (λ s. s.node == node) shape.nodes

abbrev pub is_ever_active : List Epoch → ℕ → Bool
is_ever_active epochs node = list_any (λ epoch. is_of epoch.shape node) epochs

abbrev pub last_epoch : List Epoch → Option Epoch
last_epoch epochs = slice_get epochs (length epochs - 1)

-- a link that was asked for and is not there: none was made of the line, nor was there one before
abbrev pub is_lost : LineOutcome → Bool
is_lost (O.NoFormat key) = true
is_lost O.NoBuffers = true
is_lost O.Looped = true
is_lost _ = false

abbrev pub has_lost : List LinkLine → Bool
has_lost links = list_any (λ link. is_lost link.outcome) links

-- of a run without a cycle, whose script may have `drain` lines alone
abbrev pub undrained_said : List Line → List ℕ
undrained_said lines = if has_cycles lines then []
    else codes ": drain goes on only while an active source has frames left, cycles N in any case"

unfoldable pub cycleless_said : List Line → List ℕ
cycleless_said lines = codes ": no cycle was run" ++ undrained_said lines

-- of a node that was in none of the cycles since it got its format: a rule on `drain`, where there is
-- no `cycles` line; of the last cycle which node drove it, where none links the two, or under the
-- built-in driver that the node had no link
abbrev pub drain_part : List Line → List ℕ
drain_part lines = if has_cycles lines then []
    else codes "; drain goes on only while an active source has frames left"

unfoldable pub inactive_said : List ℕ → List ℕ
inactive_said drain = codes ": it was active in no cycle since it got its format" ++ drain

unfoldable pub driver_said : Words → ℕ → List ℕ
driver_said names driver = codes "; in the last cycle "
    ++ (node_text names driver ++ codes " drove, and no links of nodes that were on joined the two")

abbrev pub lone_said : List ℕ
lone_said = codes "; in the last cycle it had no link whose nodes were both on"

abbrev pub left_part : Words → Shape → ℕ → List ℕ
left_part names shape node = if is_of shape node then []
    else (if shape.driver == dummy_node then lone_said else driver_said names shape.driver)

-- what may help: to have all links, or `groups` where the last cycle had another driver
abbrev pub groups_part : Shape → ℕ → List ℕ
groups_part shape node = if is_of shape node || shape.driver == dummy_node then []
    else codes "; where no line links the two, groups gives each a driver"

abbrev pub help_part : List LinkLine → List ℕ → List ℕ
help_part links groups =
    if has_lost links then codes "; not every link of the script was made" else groups

-- WHY, by the last epoch, if there is one
abbrev pub run_cause : Words → List Line → List LinkLine → ℕ → Option Epoch → List ℕ
run_cause names lines links node None = cycleless_said lines ++ help_part links []
run_cause names lines links node (Some epoch) = inactive_said (drain_part lines)
    ++ (left_part names epoch.shape node ++ help_part links (groups_part epoch.shape node))
