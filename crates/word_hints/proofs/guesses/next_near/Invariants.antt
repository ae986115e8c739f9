use Rattle.std.proofs.Common.{◌≡◌, length, map}
use Rattle.word_hints.specs.Guesses.{near}
use Rattle.word_hints.proofs.guesses.next_near.Given as goal

-- no name before is near
abbrev pub invariant-loop-rest : goal.invariant-loop-rest
invariant-loop-rest l = near l.fn.k l.fn.word (map (λ n. n.now) l.rest)
    ≡ near l.fn.k l.fn.word (map (λ n. n.now) l.fn.names)

abbrev pub decreases-loop-rest : goal.decreases-loop-rest
decreases-loop-rest l = length l.rest
