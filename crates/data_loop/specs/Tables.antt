-- The tries of a loop's last turn, as a list that is lent: of each length there is one list.
-- Source: this project's own.
use Rattle.std.specs.Prelude.{◌≡◌, ℕ, ◌<◌, List, length, slice_index_or}

-- the list at each index is as long as that
abbrev pub AreTables : List (List (ℕ × ℕ)) → Type 0
AreTables lists = (n : ℕ) (d : List (ℕ × ℕ)) → n < length lists
    → length (slice_index_or lists n d) ≡ n
