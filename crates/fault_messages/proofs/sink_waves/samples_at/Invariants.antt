use Rattle.std.proofs.Common.{◌≡◌, length}
use Rattle.fault_messages.specs.SinkWaves.{samples_at}
use Rattle.fault_messages.proofs.sink_waves.samples_at.Given as goal

-- no store before is of the line
abbrev pub invariant-loop-rest : goal.invariant-loop-rest
invariant-loop-rest l = samples_at l.rest l.number ≡ samples_at l.fn.stores l.number

abbrev pub decreases-loop-rest : goal.decreases-loop-rest
decreases-loop-rest l = length l.rest
