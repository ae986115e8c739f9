use Rattle.std.proofs.Common.{◌≡◌, ◌≤◌, take}
use Rattle.fault_messages.specs.SinkWaves.{at_limit}
use Rattle.fault_messages.proofs.sink_waves.few_at_limit.Given as goal

-- how many of those before
abbrev pub invariant-loop-sample : goal.invariant-loop-sample
invariant-loop-sample l = (l.count ≡ at_limit (take l.sample-index l.samples)) × (l.count ≤ l.sample-index)
