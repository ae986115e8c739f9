use Rattle.steal_shelf.specs.Seats.{IsSeatOf}
use Rattle.steal_loops.proofs.collecting.take_cell.Given as goal

abbrev pub invariant-loop : goal.invariant-loop
invariant-loop g l = record {
  next : (goal.iterator-loop g).can_next l.iterator';
  finite : (goal.iterator-loop g).is_finite l.iterator';
  seat : IsSeatOf l.shared.shelf l.seat;
}
