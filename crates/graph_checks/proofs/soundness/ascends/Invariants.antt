use Rattle.std.proofs.Common.{ℕ, ◌+◌, ◌<◌, map, get_or}
use Rattle.graph_checks.proofs.soundness.ascends.Given as goal

abbrev pub invariant-loop-i : goal.invariant-loop-i
invariant-loop-i l = (k : ℕ) → k + 1 < l.i → get_or (map (λ n. n.node) l.nodes) k 0 < get_or (map (λ n. n.node) l.nodes) (k + 1) 0
