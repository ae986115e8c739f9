use Rattle.std.proofs.Common.{◌≡◌, take, drop, map, ◌++◌, ◌*◌}
use Rattle.std.specs.List.{zip}
use Rattle.pw_lists.specs.Samples.{mixed}
use Rattle.s16_mixer.proofs.gains.mix2.Given as goal

abbrev pub invariant-loop-k : goal.invariant-loop-k
invariant-loop-k l = l.to ≡ map (λ p. mixed l.ga l.gb p.0 p.1) (take (l.k * 128) (zip l.a l.b)) ++ drop (l.k * 128) l.fn.to
