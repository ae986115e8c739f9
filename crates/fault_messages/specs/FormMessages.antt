-- A line with another number of words than its command takes, in words. Source: the grammar and the
-- sentences are this project's own.
use Rattle.std.specs.Prelude.{ℕ, ◌==◌, ◌||◌, ◌&&◌, Bool, false, List, [], ◌++◌, map, codes, length, nat_lt, bytes_eq, Option, Some, None, if◌then◌else◌}
use Rattle.std.specs.List.{list_any}
use Rattle.graph_script.specs.Lexical.{words_of}
use Rattle.graph_script.specs.declared.name.Name.{Name}
use Rattle.graph_script.specs.CommandWords.{word_of, name_called}
use Rattle.graph_script.specs.Printing.{spaced}
use Rattle.graph_script.specs.Table.{params_of, label_word}
use Rattle.fault_messages.specs.Places.{word, quoted}

-- the form of a command, as `gain NAME G`; nothing where there is no command
abbrev pub form_text : Option Name → List ℕ
form_text None = []
form_text (Some name) = word_of name ++ spaced (map (λ p. label_word p.label) (params_of name))

-- whether it is a command without parameters
abbrev pub takes_none : Option Name → Bool
takes_none None = false
takes_none (Some name) = length (params_of name) == 0

unfoldable pub takes_form : Option Name → List ℕ
takes_form name = codes " takes these words: " ++ form_text name

unfoldable pub takes_part : Option Name → List ℕ
takes_part name = if takes_none name then codes " takes no words" else takes_form name

-- a command whose second argument is a file
abbrev pub has_file : List ℕ → Bool
has_file name = bytes_eq name (codes "source") || bytes_eq name (codes "sink")

-- whether a line has a word at this place
abbrev pub has_word : List (List ℕ) → ℕ → Bool
has_word ws place = nat_lt 0 (length (word ws place))

-- of a line with too many words, where one of those that it takes may have been meant with blanks
unfoldable pub blank_part : List (List ℕ) → List ℕ
blank_part ws =
    if has_file (word ws 0) && has_word ws 3
    then codes "; a file word has no blanks, and quotes mean nothing"
    else (if bytes_eq (word ws 0) (codes "offer") && has_word ws 4
    then codes "; a file word has no blanks, and quotes mean nothing"
    else (if bytes_eq (word ws 0) (codes "map") && has_word ws 4
    then codes "; LIST has no blanks" else []))

abbrev pub comment_part : List ℕ → List ℕ
comment_part line =
    if list_any (λ b. b == 0x23) line then codes "; a comment is a line of its own"
    else blank_part (words_of line)

-- WHAT A COMMAND TAKES
unfoldable pub form_said : List ℕ → List ℕ → List ℕ
form_said name line = quoted name ++ (takes_part (name_called name) ++ comment_part line)
