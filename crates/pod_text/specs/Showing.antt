-- Words of others in a sentence. Source: this project's own.
use Rattle.std.specs.Prelude.{ℕ, List, ◌++◌, codes}
use Rattle.shown_words.specs.Escaping.{escaped, escaped_within}

-- a word in quotes
abbrev pub shown : List ℕ → List ℕ
shown w = (codes "\"" ++ escaped w) ++ codes "\""

-- a line in quotes: of a long one the first characters, at most 60 bytes of them
abbrev pub shown_line : List ℕ → List ℕ
shown_line line = (codes "\"" ++ escaped_within 60 line) ++ codes "\""
