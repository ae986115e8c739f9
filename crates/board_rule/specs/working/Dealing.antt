-- Entries that are dealt to the seats that have them.
-- Source: this project's own.
use Rattle.std.specs.Prelude.{◌≡◌, ℕ, ◌<◌, ◌≤◌, List, [], length, slice_index_or}
use Rattle.board_rule.specs.start.Owners.{own}

-- the list k is the seat k's, of the seats from `low` to the one before `high`
pub record AreDealt {A : Type 0} (os : List ℕ) (xs : List A) (low high : ℕ)
    (lists : List (List A)) : Type 0 where
  pub count : high ≤ length lists
  pub each : (k : ℕ) → low ≤ k → k < high → slice_index_or lists k [] ≡ own k os xs
