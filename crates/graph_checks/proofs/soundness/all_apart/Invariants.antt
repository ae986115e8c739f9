use Rattle.std.proofs.Common.{ℕ, ◌<◌, get_or}
use Rattle.pw_graph.specs.declared.shape.ShapeLink.{ShapeLink}
use Rattle.pw_graph.specs.SoundShape.{AreApart}
use Rattle.graph_checks.proofs.soundness.all_apart.Given as goal

abbrev pub invariant-loop-i : goal.invariant-loop-i
invariant-loop-i l = (j k : ℕ) (d : ShapeLink) → j < k → k < l.i → AreApart (get_or l.links j d) (get_or l.links k d)
