use Rattle.std.proofs.Common.{◌≡◌, ◌++◌, take, flat_map}
use Rattle.std.specs.List.{enumerate_from}
use Rattle.cycle_trace.specs.ResultLines.{result_line}
use Rattle.cycle_trace.proofs.result_lines.append_result_lines.Given as goal

abbrev pub invariant-loop-place : goal.invariant-loop-place
invariant-loop-place l = l.text ≡ l.fn.text ++ flat_map (λ n. result_line l.outcome n.0 n.1) (enumerate_from 0 (take l.place l.nodes))
