-- The line of an event as a trace has it, without its line feed. Source: the form is that of
-- `cycle_trace`; names are those of the script's nodes.
use Rattle.std.specs.Prelude.{ℕ, List, [], ◌∷◌, ◌++◌, map, codes, decimal}
use Rattle.pw_graph.specs.declared.event.Event.{Event}
use Rattle.pw_graph.specs.declared.event.Event.TheVariants.{Begin, Start, Finish, Tick, End}
use Rattle.cycle_trace.specs.EventLines.{late_nodes}
use Rattle.cycle_trace.specs.Words.{spaced}
use Rattle.fault_messages.specs.NodeNames.{node_word}
use Rattle.fault_messages.specs.Places.{Words}

-- a first word, the cycle, and the words after them
abbrev pub event_text : List ℕ → ℕ → List (List ℕ) → List ℕ
event_text first cycle others = first ++ spaced (decimal cycle ∷ others)

-- THE LINE: what happens, in which cycle, and to which nodes
abbrev pub event_words : Words → Event → List ℕ
event_words names (Begin k) = event_text (codes "begin") k []
event_words names (Start k n) = event_text (codes "start") k (node_word names n ∷ [])
event_words names (Finish k n) = event_text (codes "finish") k (node_word names n ∷ [])
event_words names (Tick k late) =
    event_text (codes "tick") k (map (node_word names) (late_nodes late))
event_words names (End k) = event_text (codes "end") k []
