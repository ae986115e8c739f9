use Rattle.std.proofs.Common.{◌≡◌, map}
use Rattle.pw_top.specs.SinkStores.{sink_store}
use Rattle.pw_top.proofs.plan_work.sink_stores.Given as goal

abbrev pub invariant-loop-kept : goal.invariant-loop-kept
invariant-loop-kept l = l.stores ≡ map (sink_store l.lines) l.yielded
