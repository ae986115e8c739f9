use Rattle.std.proofs.Common.{◌≡◌, ◌++◌, map}
use Rattle.cycle_trace.proofs.TextLemmas.{late_below}
use Rattle.cycle_trace.specs.NodeNames.{node_name}
use Rattle.cycle_trace.specs.Words.{spaced}
use Rattle.cycle_trace.proofs.event_lines.append_late_nodes.Given as goal

abbrev pub invariant-loop-n : goal.invariant-loop-n
invariant-loop-n l = l.text ≡ l.fn.text ++ spaced (map (node_name l.names) (late_below l.late l.n))
