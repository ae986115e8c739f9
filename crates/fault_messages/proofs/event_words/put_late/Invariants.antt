use Rattle.std.proofs.Common.{◌≡◌, ◌++◌, map}
use Rattle.cycle_trace.specs.Words.{spaced}
use Rattle.cycle_trace.proofs.TextLemmas.{late_below}
use Rattle.fault_messages.specs.NodeNames.{node_word}
use Rattle.fault_messages.proofs.event_words.put_late.Given as goal

-- the late nodes below a number
abbrev pub invariant-loop-n : goal.invariant-loop-n
invariant-loop-n l = l.text ≡ l.fn.text ++ spaced (map (node_word l.names) (late_below l.late l.n))
