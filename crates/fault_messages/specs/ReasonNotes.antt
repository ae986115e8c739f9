-- Why the events of a trace are no legal history, in words: the line of the event that cannot come
-- and what is wrong with it, or that the trace ends too soon and what is missing. Source:
-- PipeWire's documentation, "Graph Scheduling"; the sentences are this project's own.
use Rattle.std.specs.Prelude.{ℕ, List, [], ◌++◌, codes, Option, Some, None}
use Rattle.pw_graph.specs.declared.event.Event.{Event}
use Rattle.trace_check.specs.declared.causes.Cause.{Cause}
use Rattle.trace_check.specs.declared.causes.Cause.TheVariants as C
use Rattle.trace_check.specs.declared.reasons.Reason.{Reason}
use Rattle.fault_messages.specs.CauseWords.{cycle_of, its_node, not_begun, only_begin, not_ended}
use Rattle.fault_messages.specs.CauseWords.{not_finished, node_said, waits_for, not_late}
use Rattle.fault_messages.specs.EventWords.{event_words}
use Rattle.fault_messages.specs.NodeNames.{node_text}
use Rattle.fault_messages.specs.NoteHeads.{trace_note}
use Rattle.fault_messages.specs.Places.{Words}

-- WHAT IS WRONG with an event
abbrev pub cause_text : Words → Event → Cause → List ℕ
cause_text names event C.AllEnded =
    codes "no event can come here: the script has no further cycle"
cause_text names event (C.NotBegun k) = not_begun k ++ only_begin k
cause_text names event (C.NotEnded k) = not_ended k
cause_text names event (C.NotFinished k n) = not_finished names k n
cause_text names event C.NotActive =
    node_said (its_node names event) (codes " is not active in cycle ") (cycle_of event) []
cause_text names event C.Started = node_said (its_node names event)
    (codes " has started in cycle ") (cycle_of event) (codes " already")
cause_text names event (C.WaitsFor n) =
    waits_for (its_node names event) (node_text names n) (cycle_of event)
cause_text names event C.NotStarted =
    node_said (its_node names event) (codes " has not started in cycle ") (cycle_of event) []
cause_text names event C.Finished = node_said (its_node names event)
    (codes " has finished in cycle ") (cycle_of event) (codes " already")
cause_text names event C.Ticked =
    node_said (codes "a tick") (codes " has come in cycle ") (cycle_of event) (codes " already")
cause_text names event C.DriverStarted = node_said (codes "the driver")
    (codes " has started in cycle ") (cycle_of event) (codes ", and a tick comes before that")
cause_text names event (C.NotLate n) = not_late (node_text names n) (cycle_of event)

-- WHAT IS MISSING where no event comes: by one of three causes, since no reason then has another
unfoldable pub an_event : List ℕ
an_event = codes "an event is missing"

abbrev pub missing_text : Words → Cause → List ℕ
missing_text names (C.NotBegun k) = not_begun k
missing_text names (C.NotEnded k) = not_ended k
missing_text names (C.NotFinished k n) = not_finished names k n
missing_text names cause = an_event

unfoldable pub too_soon : Words → Cause → List ℕ
too_soon names cause = codes "the trace ends too soon: " ++ missing_text names cause

-- THE NOTE on a trace that is no legal history, by the names of the script's nodes and by the event
-- at the place of the reason
abbrev pub reason_said : Words → Option Event → Cause → List ℕ
reason_said names (Some event) cause =
    event_words names event ++ (codes ": " ++ cause_text names event cause)
reason_said names None cause = too_soon names cause

abbrev pub reason_note : Words → Words → Option Event → Reason → List ℕ
reason_note words names event r =
    trace_note words r.at (reason_said names event r.cause)
