use Rattle.std.proofs.Common.{◌≡◌, take, drop, map, ◌++◌}
use Rattle.pw_lists.specs.Samples.{scaled}
use Rattle.s16_mixer.proofs.plain.gains.gain.Given as goal

abbrev pub invariant-loop-i : goal.invariant-loop-i
invariant-loop-i l = l.to ≡ map (scaled l.g) (take l.i l.s) ++ drop l.i l.fn.to
