use Rattle.std.proofs.Common.{◌≡◌, map, take}
use Rattle.graph_run.specs.Seating.{holder_of}
use Rattle.graph_run.proofs.seating.seat_row.Given as goal

abbrev pub invariant-loop-node : goal.invariant-loop-node
invariant-loop-node l = l.row ≡ map (λ n. holder_of l.seating n.node) (take l.node-index l.node-items)
