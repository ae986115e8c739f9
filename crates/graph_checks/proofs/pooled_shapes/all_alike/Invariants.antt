use Rattle.std.proofs.Common.{ℕ, ◌<◌, get_or}
use Rattle.pw_graph.specs.declared.shape.ShapeLink.{ShapeLink}
use Rattle.pw_graph.specs.Pools.{AreAlike}
use Rattle.graph_checks.proofs.pooled_shapes.all_alike.Given as goal

abbrev pub invariant-loop-i : goal.invariant-loop-i
invariant-loop-i l = (j k : ℕ) (d : ShapeLink) → j < k → k < l.i → AreAlike (get_or l.links j d) (get_or l.links k d)
