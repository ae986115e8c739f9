-- What is wrong with an event of a trace, or what is missing where none comes, in parts. Source:
-- PipeWire's documentation, "Graph Scheduling"; the sentences are this project's own.
use Rattle.std.specs.Prelude.{ℕ, List, ◌++◌, codes, decimal}
use Rattle.pw_graph.specs.declared.event.Event.{Event}
use Rattle.pw_graph.specs.declared.event.Event.TheVariants as E
use Rattle.fault_messages.specs.NodeNames.{node_text}
use Rattle.fault_messages.specs.Places.{Words}

-- the cycle of an event, and the node that it starts or finishes
abbrev pub cycle_of : Event → ℕ
cycle_of (E.Begin k) = k
cycle_of (E.Start k n) = k
cycle_of (E.Finish k n) = k
cycle_of (E.Tick k late) = k
cycle_of (E.End k) = k

abbrev pub its_node : Words → Event → List ℕ
its_node names (E.Start k n) = node_text names n
its_node names (E.Finish k n) = node_text names n
its_node names event = codes "its node"

-- of a cycle: it has not begun, has not ended, or cannot end
unfoldable pub not_begun : ℕ → List ℕ
not_begun k = codes "cycle " ++ (decimal k ++ codes " has not begun")

unfoldable pub only_begin : ℕ → List ℕ
only_begin k = codes ", so only begin " ++ (decimal k ++ codes " can come here")

unfoldable pub not_ended : ℕ → List ℕ
not_ended k = codes "cycle " ++ (decimal k ++ codes " has begun and not ended")

unfoldable pub not_finished : Words → ℕ → ℕ → List ℕ
not_finished names k n = codes "cycle "
    ++ (decimal k ++ (codes " cannot end before " ++ (node_text names n ++ codes " has finished")))

-- of the node of an event: what it is, or for which it waits, in a cycle; of a late node
unfoldable pub node_said : List ℕ → List ℕ → ℕ → List ℕ → List ℕ
node_said node is k after = node ++ (is ++ (decimal k ++ after))

unfoldable pub waits_for : List ℕ → List ℕ → ℕ → List ℕ
waits_for node other k = node ++ (codes " waits for "
    ++ (other ++ (codes ", which has not finished in cycle " ++ decimal k)))

unfoldable pub not_late : List ℕ → ℕ → List ℕ
not_late node k = node ++ (codes " cannot be late: it drives cycle "
    ++ (decimal k ++ codes ", is not active in it, or has finished in it"))
