use Rattle.std.proofs.Common.{◌≡◌, take, drop, map, ◌++◌, ◌*◌}
use Rattle.pw_lists.specs.Samples.{clamped}
use Rattle.s16_mixer.proofs.clamp.clamp_out.Given as goal

abbrev pub invariant-loop-k : goal.invariant-loop-k
invariant-loop-k l = l.to ≡ map clamped (take (l.k * 128) l.sum) ++ drop (l.k * 128) l.fn.to
