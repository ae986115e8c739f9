use Rattle.std.proofs.Common.{◌≡◌, ℕ, ◌<◌, get_or, pos, ◌+ℤ◌}
use Rattle.cycle_model.proofs.inputs.add.Given as goal

abbrev pub invariant-loop-i : goal.invariant-loop-i
invariant-loop-i l = (k : ℕ) → k < l.i → get_or l.to k (pos 0) ≡ get_or l.sums k (pos 0) +ℤ get_or l.row k (pos 0)
