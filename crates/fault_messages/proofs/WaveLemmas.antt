-- Laws of `specs/SinkWaves.antt`: samples in parts.
use Rattle.std.proofs.Common.{◌≡◌, ℕ, ℤ, ◌+◌, ◌≤◌, cond, List, length, take, drop}
use Rattle.std.proofs.lemmas.List.Sums.{sum_by-take-drop, count_by-le-length}
use Rattle.fault_messages.specs.SinkWaves.{is_at_limit, at_limit}

-- the first so many and the others have as many as all
pub in_parts : (samples : List ℤ) (n : ℕ) → at_limit (take n samples) + at_limit (drop n samples) ≡ at_limit samples
in_parts samples n = sum_by-take-drop (λ s. cond (is_at_limit s) 1 0) samples n

-- no more are at a limit than there are
pub not_more : (samples : List ℤ) → at_limit samples ≤ length samples
not_more samples = count_by-le-length is_at_limit samples
