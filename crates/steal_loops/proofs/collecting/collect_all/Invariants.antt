use Rattle.std.proofs.Common.{◌≡◌, ◌+◌, length}
use Rattle.steal_shelf.specs.Seats.{cells_of, IsSeatOf}
use Rattle.steal_loops.specs.working.Cells.{AreCollected}
use Rattle.steal_loops.proofs.collecting.collect_all.Given as goal

abbrev pub invariant-loop-cell : goal.invariant-loop-cell
invariant-loop-cell g l = record {
  end : l.cell-end ≡ length (cells_of l.shared.shelf);
  seat : IsSeatOf l.shared.shelf l.seat;
  collected : AreCollected l.shared l.cell l.done.list;
  spare : l.done.spare + l.cell ≡ l.fn.done.spare;
}
