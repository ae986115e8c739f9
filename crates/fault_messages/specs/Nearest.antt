-- The command that is meant by a word that is no command: what other programs call it, or the first
-- within one letter, or, for words of at least six letters, within two. Source: distances are
-- Levenshtein's; the choice is this project's own.
use Rattle.std.specs.Prelude.{ℕ, List, [], ◌∷◌, codes, length, nat_le, bytes_eq, Option, Some, None, if◌then◌else◌}
use Rattle.std.specs.Option.{option_or}
use Rattle.graph_script.specs.declared.name.Name.{Name}
use Rattle.graph_script.specs.declared.name.Name.TheVariants as N
use Rattle.graph_script.specs.CommandWords.{names, word_of}
use Rattle.word_hints.specs.Nearness.{is_near}

-- the first of some commands that is at most k letters away, and the first of all
abbrev pub near_among : ℕ → List Name → List ℕ → Option Name
near_among k [] word = None
near_among k (name ∷ more) word =
    if is_near k word (word_of name) then Some name else near_among k more word

abbrev pub nearest : ℕ → List ℕ → Option Name
nearest k word = near_among k names word

abbrev pub second_choice : List ℕ → Option Name
second_choice word = if nat_le 6 (length word) then nearest 2 word else None

-- words that other programs have for a command
unfoldable pub other_word : List ℕ → Option Name
other_word word =
    if bytes_eq word (codes "connect") then Some N.Link
    else (if bytes_eq word (codes "disconnect") then Some N.Unlink
    else (if bytes_eq word (codes "input") then Some N.Source
    else (if bytes_eq word (codes "output") then Some N.Sink
    else (if bytes_eq word (codes "volume") then Some N.Gain
    else (if bytes_eq word (codes "mixer") then Some N.Mix2
    else None)))))

-- THE COMMAND that is meant
abbrev pub meant : List ℕ → Option Name
meant word = option_or (other_word word) (option_or (nearest 1 word) (second_choice word))
