-- The numbers so far that are in.
use Rattle.std.proofs.Common.{◌≡◌}
use Rattle.graph_lines.specs.Searching.{numbers_in}
use Rattle.graph_plan.proofs.partition.numbers_in.Given as goal

abbrev pub invariant-loop-node : goal.invariant-loop-node
invariant-loop-node l = l.nodes ≡ numbers_in l.here l.node
