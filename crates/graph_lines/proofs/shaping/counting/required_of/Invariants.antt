-- Of the nodes so far those that the node waits for.
use Rattle.std.proofs.Common.{◌≡◌, take}
use Rattle.std.specs.List.{count_by}
use Rattle.pw_graph.specs.Dependencies.{waits}
use Rattle.graph_lines.proofs.shaping.counting.required_of.Given as goal

abbrev pub invariant-loop-m : goal.invariant-loop-m
invariant-loop-m l = l.count ≡ count_by (λ m. waits l.shape l.node m.node) (take l.m-index l.shape.nodes)
