use Rattle.std.proofs.Common.{◌≡◌, ◌==◌, ◌&&◌, not, [], ◌∷◌, ◌++◌, map, drop, ◌↔◌}
use Rattle.std.specs.Prelude.{filter}
use Rattle.pw_graph.specs.Dependencies.{waits, targets_of}
use Rattle.graph_checks.proofs.dependencies.has_targets.Given as goal

-- what is left of the list has to be the targets among the nodes that are left
abbrev pub invariant-loop-n : goal.invariant-loop-n
invariant-loop-n l =
    (l.fn.targets ≡ targets_of l.fn.shape l.fn.m) ↔ (l.rest
    ≡ filter (λ n. not (n == l.fn.shape.driver) && waits l.fn.shape n l.fn.m)
    (map (λ n. n.node) (drop l.n-index l.fn.shape.nodes)) ++ l.fn.shape.driver ∷ [])
