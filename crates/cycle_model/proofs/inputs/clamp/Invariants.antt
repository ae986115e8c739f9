use Rattle.std.proofs.Common.{◌≡◌, ℕ, ◌<◌, get_or, pos}
use Rattle.pw_lists.specs.Samples.{clamped}
use Rattle.cycle_model.proofs.inputs.clamp.Given as goal

abbrev pub invariant-loop-i : goal.invariant-loop-i
invariant-loop-i l = (k : ℕ) → k < l.i → get_or l.to k (pos 0) ≡ clamped (get_or l.sums k (pos 0))
