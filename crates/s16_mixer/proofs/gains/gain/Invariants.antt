use Rattle.std.proofs.Common.{◌≡◌, take, drop, map, ◌++◌, ◌*◌}
use Rattle.pw_lists.specs.Samples.{scaled}
use Rattle.s16_mixer.proofs.gains.gain.Given as goal

abbrev pub invariant-loop-k : goal.invariant-loop-k
invariant-loop-k l = l.to ≡ map (scaled l.g) (take (l.k * 128) l.s) ++ drop (l.k * 128) l.fn.to
