-- The nodes so far.
use Rattle.std.proofs.Common.{◌≡◌, map}
use Rattle.std.specs.List.{range_with_len}
use Rattle.graph_lines.specs.Start.{newcomer}
use Rattle.graph_lines.proofs.starting.newcomers.Given as goal

abbrev pub invariant-loop-node : goal.invariant-loop-node
invariant-loop-node l = l.nodes ≡ map newcomer (range_with_len 0 l.node)
