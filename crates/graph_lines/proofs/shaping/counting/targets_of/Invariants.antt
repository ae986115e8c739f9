-- Of the nodes so far the followers that wait for the node.
use Rattle.std.proofs.Common.{◌≡◌, ◌==◌, ◌&&◌, not, map, take}
use Rattle.std.specs.Prelude.{filter}
use Rattle.pw_graph.specs.Dependencies.{waits}
use Rattle.graph_lines.proofs.shaping.counting.targets_of.Given as goal

abbrev pub invariant-loop-n : goal.invariant-loop-n
invariant-loop-n l =
    l.targets ≡ filter (λ n. not (n == l.shape.driver) && waits l.shape n l.node) (map (λ n. n.node) (take l.n-index l.shape.nodes))
