use Rattle.steal_shelf.specs.Seats.{IsSeatOf, IsAllowed}
use Rattle.steal_loops.proofs.collecting.collect.Given as goal

abbrev pub invariant-loop : goal.invariant-loop
invariant-loop g l = record {
  next : (goal.iterator-loop g).can_next l.iterator';
  finite : (goal.iterator-loop g).is_finite l.iterator';
  seat : IsSeatOf l.shared.shelf l.seat;
  allowed : IsAllowed l.shared.shelf l.cell l.state;
}
