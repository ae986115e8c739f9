use Rattle.std.proofs.Common.{◌≡◌, length}
use Rattle.driver_cycle.specs.Settling.{AreEachBelow}
use Rattle.graph_run.specs.LoopsOnPlan.{HasEntered}
use Rattle.graph_run.proofs.epochs.next_all.Given as goal

abbrev pub invariant-loop-k : goal.invariant-loop-k
invariant-loop-k l = (l.k-end ≡ length l.fn.states) × AreEachBelow HasEntered l.k l.fn.states l.states
