use Rattle.std.proofs.Common.{take}
use Rattle.trace_check.specs.working.NextEvent.{AreAllowed}
use Rattle.trace_check.specs.working.Admitting.{StandsFor}
use Rattle.trace_check.proofs.following.follow_inside.Given as goal

abbrev pub invariant-loop-i : goal.invariant-loop-i
invariant-loop-i l = record {
  allowed : AreAllowed l.shape l.cycle (take l.i l.events);
  stands : StandsFor l.cycle (take l.i l.events) l.so_far;
}
