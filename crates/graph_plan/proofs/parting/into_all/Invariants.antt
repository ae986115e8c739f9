-- The parts so far.
use Rattle.std.proofs.Common.{◌≡◌, ◌++◌, length}
use Rattle.std.specs.Prelude.{All}
use Rattle.std.specs.List.{AllZip}
use Rattle.graph_plan.specs.working.Members.{IsLastMember}
use Rattle.graph_plan.specs.Parted.{IsPartOfMember}
use Rattle.graph_plan.proofs.parting.into_all.Given as goal

abbrev pub invariant-loop-member : goal.invariant-loop-member
invariant-loop-member l = record {
  rest : l.fn.members ≡ l.yielded ++ l.member-iterator.rest.items;
  last : All (IsLastMember (length l.names)) l.member-iterator.rest.items;
  so_far : AllZip (IsPartOfMember l.names) l.yielded l.parts;
}
