use Rattle.std.proofs.Common.{◌≡◌, ℕ, ◌<◌, ◌/◌, ◌%◌, ◌^◌}
use Rattle.cycle_trace.specs.Printable.{IsNode}
use Rattle.cycle_trace.proofs.event_reading.are_nodes.Given as goal

abbrev pub invariant-loop-n : goal.invariant-loop-n
invariant-loop-n l = (k : ℕ) → k < l.n → l.late / 2 ^ k % 2 ≡ 1 → IsNode l.names k
