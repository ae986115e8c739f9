-- The lines of a dump: a line ends with a line feed, and is indented by two spaces a level.
-- Source: this project's own.
use Rattle.std.specs.Prelude.{ℕ, zero, suc, ◌*◌, List, [], ◌∷◌, ◌++◌, Option, Some, None, option_and_then}
use Rattle.dump_reading.specs.working.Cutting.{cut_at, behind_spaces}

abbrev pub with_rest : List ℕ → Option (List ℕ) → Option (List ℕ × List ℕ)
with_rest rest None = None
with_rest rest (Some words) = Some (words, rest)

abbrev pub line_in : ℕ → Option (List ℕ × List ℕ) → Option (List ℕ × List ℕ)
line_in level None = None
line_in level (Some c) = with_rest c.1 (behind_spaces (2 * level) c.0)

-- the words of the first line, at a level, and the lines after it
unfoldable pub line_said : ℕ → List ℕ → Option (List ℕ × List ℕ)
line_said level text = line_in level (cut_at 10 text)

-- n things, one after the other, after those so far
unfoldable pub many : {X : Type 0} → (List ℕ → Option (X × List ℕ)) → ℕ → List X
    → List ℕ → Option (List X × List ℕ)
many read zero so_far text = Some (so_far, text)
many read (suc n) so_far text =
    option_and_then (λ c. many read n (so_far ++ c.0 ∷ []) c.1) (read text)
