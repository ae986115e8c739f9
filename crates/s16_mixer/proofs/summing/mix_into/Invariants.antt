use Rattle.std.proofs.Common.{◌≡◌, take, drop, map, ◌++◌, ◌*◌, ◌+ℤ◌}
use Rattle.std.specs.Prelude.{All}
use Rattle.std.specs.List.{zip}
use Rattle.s16_mixer.specs.Ranges.{IsWithin}
use Rattle.s16_mixer.proofs.summing.mix_into.Given as goal

abbrev pub invariant-loop-k : goal.invariant-loop-k
invariant-loop-k l = record {
  sum : l.sum ≡ map (λ p. p.0 +ℤ p.1) (take (l.k * 128) (zip l.fn.sum l.s)) ++ drop (l.k * 128) l.fn.sum;
  short : All (IsWithin 1) (take (l.k * 128) l.s);
}
