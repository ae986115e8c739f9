use Rattle.std.proofs.Common.{◌≡◌, take, drop, map, ◌++◌}
use Rattle.std.specs.List.{zip}
use Rattle.pw_lists.specs.Samples.{mixed}
use Rattle.s16_mixer.proofs.plain.gains.mix2.Given as goal

abbrev pub invariant-loop-i : goal.invariant-loop-i
invariant-loop-i l = l.to ≡ map (λ p. mixed l.ga l.gb p.0 p.1) (zip (take l.i l.a) (take l.i l.b)) ++ drop l.i l.fn.to
