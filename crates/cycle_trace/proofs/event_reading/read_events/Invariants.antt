use Rattle.std.proofs.Common.{◌≡◌, ◌+◌, ◌≤◌, length}
use Rattle.cycle_trace.proofs.TraceReadingLemmas.{AreRead}
use Rattle.cycle_trace.proofs.event_reading.read_events.Given as goal

-- the lines that are read are those of the events, and the rest has the others
abbrev pub invariant-loop-line : goal.invariant-loop-line
invariant-loop-line l = record {
  read : AreRead l.fn.names l.fn.bytes l.rest l.events;
  numbered : l.number ≡ length l.events + 1;
  count : l.number + length l.rest ≤ 1 + length l.fn.bytes;
}

abbrev pub decreases-loop-line : goal.decreases-loop-line
decreases-loop-line l = length l.rest
