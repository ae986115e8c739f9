use Rattle.std.proofs.Common.{◌≡◌, ◌≤◌}
use Rattle.graph_run.specs.Assignment.{cells_before}
use Rattle.graph_run.proofs.seating.count_cells.Given as goal

abbrev pub invariant-loop-node : goal.invariant-loop-node
invariant-loop-node l = record {
  cells : l.cells ≡ cells_before l.plan l.node;
  low : l.cells ≤ l.node;
}
