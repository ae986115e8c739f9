use Rattle.std.proofs.Common.{take}
use Rattle.cycle_model.specs.working.UnderWay.{IsUnderWay}
use Rattle.cycle_model.proofs.cycles.work_cycle.Given as goal

abbrev pub invariant-loop-i : goal.invariant-loop-i
invariant-loop-i l = IsUnderWay l.plan l.waves l.cycle (take l.i l.order) l.received l.now
