use Rattle.std.proofs.Common.{◌≡◌, map}
use Rattle.std.specs.List.{range_with_len}
use Rattle.graph_run.specs.Assignment.{loop_of}
use Rattle.graph_run.proofs.assignment.owner_row.Given as goal

abbrev pub invariant-loop-node : goal.invariant-loop-node
invariant-loop-node l = l.row ≡ map (loop_of l.plan l.loops) (range_with_len 0 l.node)
