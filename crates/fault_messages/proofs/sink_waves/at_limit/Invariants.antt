use Rattle.std.proofs.Common.{◌≡◌, ◌+◌, length}
use Rattle.fault_messages.specs.SinkWaves.{at_limit}
use Rattle.fault_messages.proofs.sink_waves.at_limit.Given as goal

-- the count so far, and what is left to count
abbrev pub invariant-loop-rest : goal.invariant-loop-rest
invariant-loop-rest l = l.count + at_limit l.rest ≡ at_limit l.fn.samples

abbrev pub decreases-loop-rest : goal.decreases-loop-rest
decreases-loop-rest l = length l.rest
