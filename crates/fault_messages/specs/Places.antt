-- Where a fault is: a word of the command line, or a line of the script. Source: this project's
-- own.
use Rattle.std.specs.Prelude.{ℕ, ◌==◌, ◌-◌, ◌&&◌, ◌||◌, not, Bool, if◌then◌else◌, List, [], ◌++◌, take}
use Rattle.std.specs.Prelude.{codes, decimal, bytes_eq, nat_eq, slice_get, slice_index_or, Option, Some, None}
use Rattle.std.specs.List.{list_any, starts_with}
use Rattle.graph_script.specs.Lexical.{lines_of, words_of}
use Rattle.run_results.specs.Places.{trace_place}
use Rattle.shown_words.specs.Escaping.{escaped}

-- words of a command line or of a line, or lines of a text
abbrev pub Words : Type 0
Words = List (List ℕ)

-- a word by its index; nothing where there is none
abbrev pub word : List (List ℕ) → ℕ → List ℕ
word words i = slice_index_or words i []

-- whether bytes begin with these
abbrev pub begins : List ℕ → List ℕ → Bool
begins bytes head = starts_with nat_eq bytes head

-- a word with a quote in it, and one that is a dash, which other programs may take otherwise
abbrev pub has_quote : List ℕ → Bool
has_quote w = list_any (λ b. b == 0x22) w

abbrev pub is_dash : List ℕ → Bool
is_dash w = bytes_eq w (codes "-")

-- a command that reads a script, and the places that are lines of it
abbrev pub reads_script : List (List ℕ) → Bool
reads_script words =
    bytes_eq (word words 0) (codes "run") || bytes_eq (word words 0) (codes "groups")
    || bytes_eq (word words 0) (codes "check")

abbrev pub is_line : List (List ℕ) → ℕ → Bool
is_line words place = reads_script words && not (place == 0) && not (place == trace_place)

-- a place as people write it: `FILE:LINE`, or only the file
abbrev pub script_place : List (List ℕ) → ℕ → List ℕ
script_place words place =
    if place == 0 then escaped (word words 1)
    else (if place == trace_place then escaped (word words 2)
    else (escaped (word words 1) ++ (codes ":" ++ decimal place)))

abbrev pub place_text : List (List ℕ) → ℕ → List ℕ
place_text words place =
    if reads_script words then script_place words place else escaped (word words place)

-- the line of a script, counted from 1, and those before it
abbrev pub line_at : List ℕ → ℕ → Option (List ℕ)
line_at script n = slice_get (lines_of script) (n - 1)

abbrev pub lines_before : List ℕ → ℕ → List (List ℕ)
lines_before script n = take (n - 1) (lines_of script)

-- the file that a line names: the word after the port of `offer`, and after the name of other
-- nodes
abbrev pub file_word : List (List ℕ) → List ℕ
file_word words =
    if bytes_eq (word words 0) (codes "offer") then word words 3 else word words 2

abbrev pub file_part : Option (List ℕ) → List ℕ
file_part None = []
file_part (Some line) = escaped (file_word (words_of line)) ++ codes ": "

-- a word in quotes
unfoldable pub quoted : List ℕ → List ℕ
quoted w = codes "\"" ++ escaped w ++ codes "\""
