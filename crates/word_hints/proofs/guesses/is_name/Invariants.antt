use Rattle.std.proofs.Common.{◌≡◌, bytes_eq, length, map}
use Rattle.std.specs.List.{list_any}
use Rattle.word_hints.proofs.guesses.is_name.Given as goal

-- no name before is the word
abbrev pub invariant-loop-rest : goal.invariant-loop-rest
invariant-loop-rest l = list_any (bytes_eq l.fn.word) (map (λ n. n.now) l.rest)
    ≡ list_any (bytes_eq l.fn.word) (map (λ n. n.now) l.fn.names)

abbrev pub decreases-loop-rest : goal.decreases-loop-rest
decreases-loop-rest l = length l.rest
