-- What is wrong with the words of a command line, in words. Source: this project's own.
use Rattle.std.specs.Prelude.{ℕ, ◌==◌, ◌-◌, nat_lt, if◌then◌else◌, List, [], ◌++◌, length, codes, slice_index_or}
use Rattle.word_hints.specs.Guesses.{guesses, question}
use Rattle.pod_text.specs.Showing.{shown}
use Rattle.pod_text.specs.WordRules.{commands, rule_at, names_at}
use Rattle.pod_text.specs.Words.{source_of}

-- a word by its index; nothing where there is none
abbrev pub word : List (List ℕ) → ℕ → List ℕ
word words i = slice_index_or words i []

-- the first word, which is no command
unfoldable pub no_command : List ℕ → List ℕ
no_command w = shown w
    ++ (codes " is no command" ++ question (codes "pipegraph-pods ") (guesses w commands))

-- what should be at a place
abbrev pub rule_of : List (List ℕ) → ℕ → List ℕ
rule_of words i = rule_at (source_of (word words 0)) i

-- a later word, and the names that it may mean
abbrev pub meant_of : List (List ℕ) → ℕ → List ℕ
meant_of words i = question [] (guesses (word words i) (names_at (source_of (word words 0)) i))

abbrev pub wrong_word : List (List ℕ) → ℕ → List ℕ
wrong_word words i =
    shown (word words i) ++ (codes " is wrong here: " ++ (rule_of words i ++ meant_of words i))

-- a word that is missing
abbrev pub missing_word : List (List ℕ) → ℕ → List ℕ
missing_word words i = codes "a word is missing after "
    ++ (shown (word words (i - 1)) ++ (codes ": " ++ rule_of words i))

abbrev pub first_fault : List (List ℕ) → List ℕ
first_fault words =
    if nat_lt 0 (length words) then no_command (word words 0) else codes "a command is missing"

abbrev pub later_fault : List (List ℕ) → ℕ → List ℕ
later_fault words i =
    if nat_lt i (length words) then wrong_word words i else missing_word words i

-- THE FAULT at an index
abbrev pub usage_fault : List (List ℕ) → ℕ → List ℕ
usage_fault words i =
    if i == 0 then first_fault words else later_fault words i
