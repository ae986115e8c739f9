use Rattle.std.proofs.Common.{◌≡◌, ◌+◌, ◌++◌, length}
use Rattle.graph_run.proofs.crew.append.Given as goal

abbrev pub invariant-loop-state : goal.invariant-loop-state
invariant-loop-state l = record {
  rest : l.fn.more ≡ l.yielded ++ l.state-iterator.rest.items;
  list : l.done.list ≡ l.fn.done.list ++ l.yielded;
  spare : l.done.spare + length l.yielded ≡ l.fn.done.spare;
}
