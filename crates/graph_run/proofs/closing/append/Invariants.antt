use Rattle.std.proofs.Common.{◌≡◌, ◌+◌, ◌++◌, take}
use Rattle.graph_run.proofs.closing.append.Given as goal

abbrev pub invariant-loop-event : goal.invariant-loop-event
invariant-loop-event l = record {
  list : l.history.list ≡ l.fn.history.list ++ take l.event-index l.events;
  spare : l.history.spare + l.event-index ≡ l.fn.history.spare;
}
