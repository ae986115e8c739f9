use Rattle.std.proofs.Common.{◌≡◌, length}
use Rattle.std.specs.Prelude.{All}
use Rattle.crossbeam_queue.specs.Passes.{ruled_capacity}
use Rattle.ready_queues.specs.Lanes.{unparks}
use Rattle.ready_queues.specs.Ends.{received_by}
use Rattle.ready_queues.specs.Opening.{AreFresh, AreBare}
use Rattle.ready_queues.proofs.opening.open_loops.Given as goal

abbrev pub invariant-loop-number : goal.invariant-loop-number
invariant-loop-number l = record {
  lanes : length l.lanes ≡ l.number;
  ends : length l.ends ≡ l.number;
  ways : length l.ways ≡ l.number;
  rooms : All (λ lane. ruled_capacity lane.queue ≡ 64) l.lanes;
  fresh : AreFresh l.owner l.lanes l.ends;
  none : received_by l.ends ≡ 0;
  bare : AreBare l.lanes (unparks l.driver) l.ways;
}
