use Rattle.std.proofs.Common.{◌≡◌, ◌==◌}
use Rattle.std.specs.Prelude.{filter}
use Rattle.std.specs.List.{range_with_len}
use Rattle.graph_run.specs.Seating.{holder_of}
use Rattle.graph_run.proofs.seating.nodes_of_loop.Given as goal

abbrev pub invariant-loop-node : goal.invariant-loop-node
invariant-loop-node l = l.nodes ≡ filter (λ n. holder_of l.seating n == l.which) (range_with_len 0 l.node)
