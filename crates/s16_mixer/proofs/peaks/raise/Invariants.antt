use Rattle.std.proofs.Common.{◌≡◌, ◌≤◌, take, drop, map, ◌++◌, max, All}
use Rattle.std.specs.Prelude.{unsigned_abs}
use Rattle.std.specs.List.{zip}
use Rattle.s16_mixer.proofs.peaks.raise.Given as goal

abbrev pub invariant-loop-j : goal.invariant-loop-j
invariant-loop-j l =
    (l.tops ≡ map (λ p. max p.0 (unsigned_abs p.1)) (zip (take l.j l.fn.tops) (take l.j l.s)) ++ drop l.j l.fn.tops)
    × All (λ top. top ≤ 32768) l.tops
