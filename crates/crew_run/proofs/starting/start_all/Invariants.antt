use Rattle.std.proofs.Common.{◌≡◌, ◌++◌, length}
use Rattle.std.specs.Prelude.{All}
use Rattle.crew_run.specs.Starting.{AreBegun, HaveRooms}
use Rattle.crew_run.proofs.starting.start_all.Given as goal

abbrev pub invariant-loop-given : goal.invariant-loop-given
invariant-loop-given g l = record {
  at : l.k ≡ length l.yielded;
  rest : l.fn.members ≡ l.yielded ++ l.given-iterator.rest.items;
  can : All (g.C.Work.can_start l.crew) l.given-iterator.rest.items;
  begun : AreBegun (λ h. h.promise.given.value) g.C.Work.number_of g.C.Work.has_run l.adopt l.yielded
      l.lists.kept.list l.lists.held.list l.lists.begun.list;
  rooms : HaveRooms (length l.given-iterator.rest.items) l.lists;
}
