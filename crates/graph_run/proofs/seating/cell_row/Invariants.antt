use Rattle.std.proofs.Common.{◌≡◌, ◌≤◌, map}
use Rattle.std.specs.List.{range_with_len}
use Rattle.graph_run.specs.Assignment.{cells_before, cell_number}
use Rattle.graph_run.proofs.seating.cell_row.Given as goal

abbrev pub invariant-loop-node : goal.invariant-loop-node
invariant-loop-node l = record {
  row : l.row ≡ map (cell_number l.plan) (range_with_len 0 l.node);
  next : l.next ≡ cells_before l.plan l.node;
  low : l.next ≤ l.node;
}
