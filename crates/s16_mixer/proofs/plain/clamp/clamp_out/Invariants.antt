use Rattle.std.proofs.Common.{◌≡◌, take, drop, map, ◌++◌}
use Rattle.pw_lists.specs.Samples.{clamped}
use Rattle.s16_mixer.proofs.plain.clamp.clamp_out.Given as goal

abbrev pub invariant-loop-i : goal.invariant-loop-i
invariant-loop-i l = l.to ≡ map clamped (take l.i l.sum) ++ drop l.i l.fn.to
