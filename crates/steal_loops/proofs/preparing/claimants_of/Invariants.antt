use Rattle.std.proofs.Common.{◌≡◌, ◌+◌, length}
use Rattle.std.specs.Prelude.{All}
use Rattle.steal_loops.specs.working.Claimants.{IsUnusedSeat, IsNewWorker, IsWorkersWay}
use Rattle.steal_loops.proofs.preparing.claimants_of.Given as goal

abbrev pub invariant-loop-seat : goal.invariant-loop-seat
invariant-loop-seat l = record {
  seats : All (IsUnusedSeat l.shared.shelf) l.seat-iterator.rest.items;
  ways : All (IsWorkersWay l.shared.ways) l.rest.rest.items;
  same : length l.rest.rest.items ≡ length l.seat-iterator.rest.items;
  claimants : All (IsNewWorker l.shared) l.claimants;
  count : length l.claimants + length l.rest.rest.items ≡ length l.fn.ways;
}
