-- Words and lines of a text: words parted by one space, lines ended by byte 10. Source: this
-- project's own.
use Rattle.std.specs.Prelude.{ℕ, List, [], ◌∷◌, ◌++◌, flat_map}

-- each word after a space, byte 32
abbrev pub spaced : List (List ℕ) → List ℕ
spaced words = flat_map (λ word. 32 ∷ word) words

-- a line of a first word and others
abbrev pub line : List ℕ → List (List ℕ) → List ℕ
line first others = first ++ spaced others ++ 10 ∷ []
