use Rattle.std.proofs.Common.{◌≡◌, map, drop, ◌++◌}
use Rattle.std.specs.List.{range_with_len}
use Rattle.pw_lists.specs.Samples.{sample_at}
use Rattle.s16_mixer.proofs.plain.channels.split.Given as goal

abbrev pub invariant-loop-i : goal.invariant-loop-i
invariant-loop-i l =
    (l.left ≡ map (λ i. sample_at 2 l.s i 0) (range_with_len 0 l.i) ++ drop l.i l.fn.left)
    × (l.right ≡ map (λ i. sample_at 2 l.s i 1) (range_with_len 0 l.i) ++ drop l.i l.fn.right)
