-- What helps where the channels of two ports part, in words, by the nodes of the link and by what
-- both sides admit. Source: this project's own; a `map` line says the channels of its input, and
-- names one of them for each channel of its output.
use Rattle.std.specs.Prelude.{ℕ, ◌&&◌, ◌||◌, ℤ, pos, int_le, Bool, true, false, List, [], codes, slice_get, Option, Some, None, if◌then◌else◌}
use Rattle.pod_codec.specs.declared.pod.Pod.{Pod}
use Rattle.pod_codec.specs.declared.pod.Pod.TheVariants as pod
use Rattle.format_filter.specs.declared.choice.Choice.{Choice}
use Rattle.format_filter.specs.declared.choice.Choice.TheVariants.{Only}
use Rattle.pw_graph.specs.declared.kind.Kind.{Kind}
use Rattle.pw_graph.specs.declared.kind.Kind.TheVariants.{Map}
use Rattle.pw_graph.specs.declared.plan.LinkLine.{LinkLine}
use Rattle.pw_graph.specs.declared.plan.PlanNode.{PlanNode}

-- an offer of this one Int
abbrev pub is_value : ℤ → Pod → Bool
is_value n (pod.Int m) = int_le n m && int_le m n
is_value n _ = false

abbrev pub is_only : ℤ → Choice → Bool
is_only n (Only value) = is_value n value
is_only n _ = false

abbrev pub is_side : ℤ → Option Choice → Bool
is_side n None = false
is_side n (Some choice) = is_only n choice

-- one channel and two, and what makes two of one
abbrev pub are_one_two : Option Choice → Option Choice → Bool
are_one_two from to =
    (is_side (pos 1) from && is_side (pos 2) to) || (is_side (pos 2) from && is_side (pos 1) to)

abbrev pub one_two_hint : Option Choice → Option Choice → List ℕ
one_two_hint from to =
    if are_one_two from to then codes "; map NAME 1 0,0 makes two channels of one" else []

-- a node that is a map
abbrev pub is_map_kind : Kind → Bool
is_map_kind (Map channels list) = true
is_map_kind _ = false

abbrev pub is_map : Option PlanNode → Bool
is_map None = false
is_map (Some node) = is_map_kind node.kind

abbrev pub is_map_at : List PlanNode → ℕ → Bool
is_map_at nodes n = is_map (slice_get nodes n)

-- WHAT HELPS where the channels of a link part: of the output of a map, or first of the input of one,
-- a rule, and else these words
abbrev pub output_hint : Bool → List ℕ → List ℕ
output_hint of_map others = if of_map
    then codes "; the output of a map has a channel for each number of its LIST" else others

abbrev pub channel_hint : List PlanNode → LinkLine → List ℕ → List ℕ
channel_hint nodes link others = if is_map_at nodes link.to.node
    then codes "; the input of a map has as many channels as its CHANNELS says"
    else output_hint (is_map_at nodes link.from.node) others
