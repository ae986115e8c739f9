use Rattle.std.proofs.Common.{◌≡◌, ◌++◌, map}
use Rattle.std.specs.List.{range_with_len}
use Rattle.cycle_model.specs.working.Known.{given_by}
use Rattle.cycle_model.proofs.one_cycle.give.Given as goal

abbrev pub invariant-loop-output : goal.invariant-loop-output
invariant-loop-output l = l.now ≡ l.fn.now ++ map (given_by l.at.quantum l.at.epoch.now l.kind l.wave l.node l.received)
    (range_with_len 0 l.output)
