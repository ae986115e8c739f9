-- The parts so far.
use Rattle.std.proofs.Common.{◌≡◌, ◌++◌}
use Rattle.std.specs.List.{AllZip}
use Rattle.graph_plan.specs.working.Members.{IsFirst}
use Rattle.graph_plan.proofs.beginning.firsts_of.Given as goal

abbrev pub invariant-loop-nodes : goal.invariant-loop-nodes
invariant-loop-nodes l = record {
  rest : l.fn.parts ≡ l.yielded ++ l.nodes-iterator.rest.items;
  so_far : AllZip (IsFirst l.lines l.ports) l.yielded l.members;
}
