-- The names that a word that is none of them may mean: those within one letter, or, where there are
-- none, those within two of a word of at least six letters. Source: distances are
-- Levenshtein's; the choice is this project's own.
use Rattle.std.specs.Prelude.{ℕ, ◌||◌, List, [], ◌∷◌, ◌++◌, codes, bytes_eq, filter, length, nat_lt, if◌then◌else◌}
use Rattle.std.specs.List.{list_any}
use Rattle.word_hints.specs.Nearness.{is_near}

-- the names that are at most so many letters away
abbrev pub near : ℕ → List ℕ → List (List ℕ) → List (List ℕ)
near k word names = filter (is_near k word) names

-- how many letters a name may be away: the fewest at which one is, of one and two
abbrev pub reach : List ℕ → List (List ℕ) → ℕ
reach word names =
    if nat_lt (length word) 6 || nat_lt 0 (length (near 1 word names)) then 1 else 2

-- those of a word that is no name itself
abbrev pub guesses : List ℕ → List (List ℕ) → List (List ℕ)
guesses word names =
    if list_any (bytes_eq word) names then [] else near (reach word names) word names

-- a name with bytes in front of it, and words before that
unfoldable pub named : List ℕ → List ℕ → List ℕ → List ℕ
named words front name = words ++ (front ++ name)

-- one more name behind the first; a third is not said
abbrev pub or_said : List ℕ → List (List ℕ) → List ℕ
or_said front [] = []
or_said front (name ∷ more) = named (codes " or ") front name

-- THE QUESTION behind a sentence, with these bytes in front of each name; nothing where no name is
-- near
abbrev pub question : List ℕ → List (List ℕ) → List ℕ
question front [] = []
question front (name ∷ more) =
    named (codes "; did you mean: ") front name ++ (or_said front more ++ codes "?")
