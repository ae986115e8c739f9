use Rattle.std.proofs.Common.{◌≡◌, ◌≤◌, ◌++◌, length}
use Rattle.driver_groups.specs.working.Crew.{merged}
use Rattle.driver_groups.proofs.crew.merge.Given as goal

abbrev pub invariant-loop-was_held : goal.invariant-loop-was_held
invariant-loop-was_held l = record {
  list : l.ended.list ++ merged l.was_held-iterator.rest.items l.waited.rest.items l.backs.rest.items
      ≡ l.fn.ended.list ++ merged l.fn.kept l.fn.waited l.fn.backs;
  room : length l.was_held-iterator.rest.items ≤ l.ended.spare;
}
