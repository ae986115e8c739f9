-- Notes on a line of a file: the program's name, the file, the number of the line, and what is said
-- of it. Source: this project's own.
use Rattle.std.specs.Prelude.{ℕ, List, ◌++◌, codes, decimal}
use Rattle.shown_words.specs.Escaping.{escaped}
use Rattle.fault_messages.specs.Places.{Words, word}

-- a line of a file, by its number
unfoldable pub note_head : List ℕ → ℕ → List ℕ
note_head file n = codes "pipegraph: " ++ (escaped file ++ (codes ":" ++ (decimal n ++ codes ": ")))

-- A NOTE on a line of the script, and on one of the trace
abbrev pub note_at : Words → ℕ → List ℕ → List ℕ
note_at words n what = note_head (word words 1) n ++ (what ++ codes "\n")

abbrev pub trace_note : Words → ℕ → List ℕ → List ℕ
trace_note words n what = note_head (word words 2) n ++ (what ++ codes "\n")
