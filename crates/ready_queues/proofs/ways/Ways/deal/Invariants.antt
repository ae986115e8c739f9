use Rattle.std.proofs.Common.{◌≡◌, length}
use Rattle.ready_queues.specs.Ends.{received_by}
use Rattle.ready_queues.specs.Opening.{AreFresh, AreFreshEnds}
use Rattle.ready_queues.proofs.ways.Ways.deal.Given as goal

abbrev pub invariant-loop-at : goal.invariant-loop-at
invariant-loop-at l = record {
  kept : AreFreshEnds l.self.owner l.self.lanes l.ends;
  count : length l.more ≡ l.at;
  dealt : AreFresh l.self.owner l.self.lanes l.more;
  none : received_by l.more ≡ 0;
}
