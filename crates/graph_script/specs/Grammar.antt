-- The grammar of a script: the meaning of each line by the lines before it, and the first line at
-- fault. Source: this project's own.
use Rattle.std.specs.Prelude.{◌≡◌, ℕ, ◌+◌, not, List, [], ◌∷◌, ◌++◌, Option, Some, None, option_map, option_to_list, Result, Ok, Err}
use Rattle.std.specs.Prelude.{if◌then◌else◌}
use Rattle.std.specs.List.{list_all}
use Rattle.graph_script.specs.declared.fault.ScriptWhy.{ScriptWhy}
use Rattle.graph_script.specs.declared.fault.ScriptWhy.TheVariants as W
use Rattle.graph_script.specs.declared.fault.ScriptFault.{ScriptFault}
use Rattle.graph_script.specs.declared.fault.ScriptFault.TheVariants as F
use Rattle.graph_script.specs.declared.script.Script.{Script}
use Rattle.graph_script.specs.declared.reading.ParsedLine.{ParsedLine}
use Rattle.graph_script.specs.declared.reading.Reading.{Reading}
use Rattle.graph_script.specs.Lexical.{is_allowed, lines_of, words_of, say_nothing}
use Rattle.graph_script.specs.Checked.{checked_map}
use Rattle.graph_script.specs.Commands.{meaning_of_words}

-- the meaning of a line by the lines before it: what it says, or nothing; or the cause of its fault
unfoldable pub meaning_of_line : Reading → List ℕ → Result (Option ParsedLine) ScriptWhy
meaning_of_line reading line =
    if not (list_all is_allowed line) then Err W.Byte
    else (if say_nothing (words_of line) then Ok None
    else checked_map Some (meaning_of_words reading (words_of line)))

-- what the lines have said after one more, of this number
abbrev pub reading_after : ℕ → Reading → Option ParsedLine → Reading
reading_after number reading None = reading
reading_after number reading (Some parsed) = record {
  script = record {
    lines = reading.script.lines ++ (record { line = number; command = parsed.command }) ∷ [];
    names = reading.script.names ++ option_to_list (option_map (λ m. m.name) parsed.made);
  };
  kinds = reading.kinds ++ option_to_list (option_map (λ m. m.kind) parsed.made);
}

-- the same, with the line's fault at its number
abbrev pub reading_with : ℕ → Reading → Result (Option ParsedLine) ScriptWhy
    → Result Reading ScriptFault
reading_with number reading (Ok parsed) = Ok (reading_after number reading parsed)
reading_with number reading (Err why) = Err (F.At number why)

-- what follows lines that were read; a fault stays
abbrev pub and_then : Result Reading ScriptFault → (Reading → Result Script ScriptFault)
    → Result Script ScriptFault
and_then (Ok reading) next = next reading
and_then (Err fault) next = Err fault

-- lines, numbered from this number on, after what those before them have said
unfoldable pub script_from : ℕ → Reading → List (List ℕ) → Result Script ScriptFault
script_from number reading [] = Ok reading.script
script_from number reading (line ∷ lines) =
    and_then (reading_with number reading (meaning_of_line reading line))
    (λ next. script_from (number + 1) next lines)

abbrev pub start : Reading
start = record { script = record { lines = []; names = [] }; kinds = [] }

-- THE GRAMMAR: the script that bytes are, or the first line at fault
unfoldable pub script_of : List ℕ → Result Script ScriptFault
script_of bytes = script_from 1 start (lines_of bytes)

-- a result is what is meant, unless memory runs out
abbrev pub IsRead : {T : Type 0} → Result T ScriptFault → Result T ScriptFault → Type 0
IsRead meaning (Err F.Memory) = Unit {0}
IsRead meaning result = meaning ≡ result
