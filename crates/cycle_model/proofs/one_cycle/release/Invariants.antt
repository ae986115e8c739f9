use Rattle.std.proofs.Common.{◌≡◌, ℕ, ◌<◌, ◌≤◌, cond, length, get_or}
use Rattle.cycle_model.specs.working.Known.{is_released, released}
use Rattle.cycle_model.specs.Progress.{nothing}
use Rattle.cycle_model.proofs.one_cycle.release.Given as goal

abbrev pub invariant-loop-n : goal.invariant-loop-n
invariant-loop-n l = record {
  done : (k : ℕ) → k < l.n → get_or l.received k nothing
      ≡ cond (is_released l.epochs l.cycle k) (released (get_or l.fn.received k nothing)) (get_or l.fn.received k nothing);
  todo : (k : ℕ) → l.n ≤ k → k < length l.fn.received → get_or l.received k nothing ≡ get_or l.fn.received k nothing;
}
