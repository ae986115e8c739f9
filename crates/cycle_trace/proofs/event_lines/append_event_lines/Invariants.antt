use Rattle.std.proofs.Common.{◌≡◌, ◌++◌, take, flat_map}
use Rattle.cycle_trace.specs.EventLines.{event_line}
use Rattle.cycle_trace.proofs.event_lines.append_event_lines.Given as goal

abbrev pub invariant-loop-event : goal.invariant-loop-event
invariant-loop-event l = l.text ≡ l.fn.text ++ flat_map (event_line l.names) (take l.event-index l.events)
