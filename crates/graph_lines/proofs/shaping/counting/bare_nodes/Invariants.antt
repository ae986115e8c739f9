-- The numbers so far that are in.
use Rattle.std.proofs.Common.{◌≡◌, map}
use Rattle.graph_lines.specs.Searching.{numbers_in}
use Rattle.graph_lines.proofs.shaping.counting.bare_nodes.Given as goal

abbrev pub invariant-loop-node : goal.invariant-loop-node
invariant-loop-node l = map (λ n. n.node) l.nodes ≡ numbers_in l.here l.node
