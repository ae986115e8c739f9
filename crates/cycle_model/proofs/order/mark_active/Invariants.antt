use Rattle.std.proofs.Common.{◌≡◌, ℕ, ◌<◌, false, get_or}
use Rattle.cycle_model.specs.Mixing.{takes_part}
use Rattle.cycle_model.proofs.order.mark_active.Given as goal

abbrev pub invariant-loop-n : goal.invariant-loop-n
invariant-loop-n l = (k : ℕ) → k < l.n → get_or l.left k false ≡ takes_part l.epoch k
