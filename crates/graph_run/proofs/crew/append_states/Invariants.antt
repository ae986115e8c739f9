use Rattle.std.proofs.Common.{◌≡◌, ◌+◌, ◌++◌, length}
use Rattle.graph_run.specs.working.Crew.{states_of}
use Rattle.graph_run.proofs.crew.append_states.Given as goal

abbrev pub invariant-loop-given : goal.invariant-loop-given
invariant-loop-given l = record {
  rest : l.fn.held ≡ l.yielded ++ l.given-iterator.rest.items;
  list : l.adopted.list ≡ l.fn.adopted.list ++ states_of l.yielded;
  spare : l.adopted.spare + length l.yielded ≡ l.fn.adopted.spare;
}
