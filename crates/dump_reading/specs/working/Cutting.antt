-- Pieces of a line: what is before a mark and after it, and what is after an indent.
-- Source: this project's own.
use Rattle.std.specs.Prelude.{ℕ, ◌==◌, ◌&&◌, nat_le, if◌then◌else◌, List, [], ◌∷◌, length, take, drop, Option, Some, None}
use Rattle.std.specs.List.{list_all, position_or_len}

-- how many bytes are before the first of this value
abbrev pub front_len : ℕ → List ℕ → ℕ
front_len mark text = position_or_len (λ b. b == mark) text

abbrev pub parted : List ℕ → List ℕ → Option (List ℕ × List ℕ)
parted front [] = None
parted front (mark ∷ rest) = Some (front, rest)

-- what is before the first byte of this value, and after it
unfoldable pub cut_at : ℕ → List ℕ → Option (List ℕ × List ℕ)
cut_at mark text = parted (take (front_len mark text) text) (drop (front_len mark text) text)

-- what is after n spaces at the beginning of a line
unfoldable pub behind_spaces : ℕ → List ℕ → Option (List ℕ)
behind_spaces n line =
    if nat_le n (length line) && list_all (λ b. b == 32) (take n line) then Some (drop n line)
    else None
