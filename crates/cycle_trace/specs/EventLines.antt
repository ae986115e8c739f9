-- The line of an event in a text. Source: the form is this project's own.
use Rattle.std.specs.Prelude.{ℕ, ◌/◌, ◌%◌, ◌^◌, ◌==◌, List, [], ◌∷◌, map, filter, codes, decimal}
use Rattle.std.specs.List.{range_with_len}
use Rattle.pw_graph.specs.declared.event.Event.{Event}
use Rattle.pw_graph.specs.declared.event.Event.TheVariants.{Begin, Start, Finish, Tick, End}
use Rattle.cycle_trace.specs.NodeNames.{node_name}
use Rattle.cycle_trace.specs.Words.{line}

-- the nodes of a late set, ascending by number: bit n is node n
unfoldable pub late_nodes : ℕ → List ℕ
late_nodes late = filter (λ n. late / 2 ^ n % 2 == 1) (range_with_len 0 64)

-- the line: what happened, in which cycle, and to which nodes, by their names
abbrev pub event_line : List (List ℕ) → Event → List ℕ
event_line names (Begin cycle) = line (codes "begin") (decimal cycle ∷ [])
event_line names (Start cycle node) = line (codes "start")
    (decimal cycle ∷ node_name names node ∷ [])
event_line names (Finish cycle node) = line (codes "finish")
    (decimal cycle ∷ node_name names node ∷ [])
event_line names (Tick cycle late) = line (codes "tick")
    (decimal cycle ∷ map (node_name names) (late_nodes late))
event_line names (End cycle) = line (codes "end") (decimal cycle ∷ [])
