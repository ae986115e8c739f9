use Rattle.std.proofs.Common.{◌≡◌, ◌++◌, take, drop, ◌*◌}
use Rattle.pw_lists.specs.Samples.{picked}
use Rattle.s16_mixer.proofs.channels.map_pairs.Given as goal

abbrev pub invariant-loop-k : goal.invariant-loop-k
invariant-loop-k l = l.to ≡ picked 2 l.list (take (l.k * 128) l.s) ++ drop (l.k * 128) l.fn.to
