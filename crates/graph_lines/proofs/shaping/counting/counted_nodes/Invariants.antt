-- The nodes so far are counted.
use Rattle.std.proofs.Common.{◌≡◌, map, take}
use Rattle.std.specs.Prelude.{All}
use Rattle.pw_graph.specs.SoundShape.{IsCounted}
use Rattle.graph_lines.proofs.shaping.counting.counted_nodes.Given as goal

abbrev pub invariant-loop-n : goal.invariant-loop-n
invariant-loop-n l = record {
  same : map (λ n. n.node) l.nodes ≡ map (λ n. n.node) (take l.n-index l.shape.nodes);
  counted : All (IsCounted l.shape) l.nodes;
}
