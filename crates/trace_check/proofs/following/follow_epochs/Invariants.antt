use Rattle.std.proofs.Common.{◌≤◌, length, take, map}
use Rattle.pw_graph.specs.History.{cycles_of, AreJoined}
use Rattle.trace_check.proofs.following.follow_epochs.Given as goal

abbrev pub invariant-loop-epoch : goal.invariant-loop-epoch
invariant-loop-epoch l = record {
  within : l.at ≤ length l.events;
  joined : AreJoined (cycles_of (map (λ e. e.shape) (take l.epoch-index l.epochs))) (take l.at l.events);
}
