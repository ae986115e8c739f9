use Rattle.std.proofs.Common.{◌≤◌, length, take}
use Rattle.pw_graph.specs.History.{epoch_cycles, AreJoined}
use Rattle.trace_check.proofs.following.follow_epoch.Given as goal

abbrev pub invariant-loop-k : goal.invariant-loop-k
invariant-loop-k l = record {
  within : l.at ≤ length l.events;
  joined : AreJoined (epoch_cycles l.fn.shape l.k) (take l.at l.events);
}
