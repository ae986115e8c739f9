-- What is left of the nodes so far.
use Rattle.std.proofs.Common.{◌≡◌, map}
use Rattle.std.specs.List.{range_with_len}
use Rattle.graph_lines.specs.Rehearsal.{standing_past}
use Rattle.graph_lines.proofs.graph.Graph.standings_past.Given as goal

abbrev pub invariant-loop-node : goal.invariant-loop-node
invariant-loop-node l = l.nodes ≡ map (standing_past l.self l.epoch) (range_with_len 0 l.node)
