use Rattle.std.proofs.Common.{◌≡◌, ℕ, ℤ, ◌<◌, length, get_or, take, drop, ◌++◌}
use Rattle.pw_lists.specs.Samples.{summed}
use Rattle.s16_mixer.specs.Ranges.{IsWithin}
use Rattle.s16_mixer.proofs.plain.summing.mix_into.Given as goal

abbrev pub invariant-loop-i : goal.invariant-loop-i
invariant-loop-i l = record {
  sum : l.sum ≡ summed (take l.i l.fn.sum) (take l.i l.s) ++ drop l.i l.fn.sum;
  short : (j : ℕ) (d : ℤ) → j < l.i → j < length l.s → IsWithin 1 (get_or l.s j d);
}
