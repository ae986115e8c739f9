use Rattle.std.proofs.Common.{◌≤◌, ◌-◌, length}
use Rattle.cycle_model.specs.Progress.{nothing, AreReceived}
use Rattle.cycle_model.proofs.cycles.nothing_received.Given as goal

abbrev pub invariant-loop-alloc : goal.invariant-loop-alloc
invariant-loop-alloc l = record {
  some : AreReceived (length l.received) (λ node. nothing) l.received;
  within : length l.received ≤ l.count;
}

abbrev pub decreases-loop-alloc : goal.decreases-loop-alloc
decreases-loop-alloc l = l.count - length l.received
