use Rattle.std.proofs.Common.{◌≡◌, ◌++◌, ◌∷◌, [], take, drop, ◌*◌}
use Rattle.pw_lists.specs.Samples.{picked}
use Rattle.s16_mixer.proofs.channels.split.Given as goal

abbrev pub invariant-loop-k : goal.invariant-loop-k
invariant-loop-k l =
    (l.left ≡ picked 2 (0 ∷ []) (take (l.k * 128) l.s) ++ drop (l.k * 64) l.fn.left)
    × (l.right ≡ picked 2 (1 ∷ []) (take (l.k * 128) l.s) ++ drop (l.k * 64) l.fn.right)
