-- The commands and the options that are meant by words of the command line. Source: the grammar is
-- this project's own; distances are Levenshtein's.
use Rattle.std.specs.Prelude.{ℕ, ◌&&◌, ◌||◌, not, Bool, List, codes, length, nat_le, bytes_eq, Option, Some, None, if◌then◌else◌}
use Rattle.std.specs.List.{list_all, list_any}
use Rattle.std.specs.Option.{option_or}
use Rattle.graph_script.specs.Arguments.{is_name_byte, is_dot, is_within}
use Rattle.word_hints.specs.Nearness.{is_near}
use Rattle.fault_messages.specs.Places.{begins}

-- the first command at most k letters away, and that which is meant
unfoldable pub main_near : ℕ → List ℕ → Option (List ℕ)
main_near k word =
    if is_near k word (codes "run") then Some (codes "run")
    else (if is_near k word (codes "dump") then Some (codes "dump")
    else (if is_near k word (codes "filter") then Some (codes "filter")
    else (if is_near k word (codes "automate") then Some (codes "automate")
    else (if is_near k word (codes "check") then Some (codes "check")
    else (if is_near k word (codes "soak") then Some (codes "soak")
    else (if is_near k word (codes "groups") then Some (codes "groups")
    else None))))))

abbrev pub second_main : List ℕ → Option (List ℕ)
second_main word = if nat_le 6 (length word) then main_near 2 word else None

abbrev pub main_meant : List ℕ → Option (List ℕ)
main_meant word = option_or (main_near 1 word) (second_main word)

-- the same of options
unfoldable pub option_near : ℕ → List ℕ → Option (List ℕ)
option_near k word =
    if is_near k word (codes "--loops") then Some (codes "--loops")
    else (if is_near k word (codes "--ticks") then Some (codes "--ticks")
    else (if is_near k word (codes "--trace") then Some (codes "--trace")
    else (if is_near k word (codes "--steal") then Some (codes "--steal")
    else None)))

abbrev pub option_meant : List ℕ → Option (List ℕ)
option_meant word = option_or (option_near 1 word) (option_near 2 word)

-- how many words come after a command other than `run`
abbrev pub wanted : List ℕ → ℕ
wanted name =
    if bytes_eq name (codes "filter") || bytes_eq name (codes "automate") then 3
    else (if bytes_eq name (codes "check") then 2 else 1)

abbrev pub has_value : List ℕ → Bool
has_value word = bytes_eq word (codes "--loops") || bytes_eq word (codes "--ticks")

abbrev pub is_option : List ℕ → Bool
is_option word = has_value word
    || (bytes_eq word (codes "--trace") || bytes_eq word (codes "--steal"))

-- an option with its value in one word
abbrev pub has_both : List ℕ → Bool
has_both word = begins word (codes "--loops=") || begins word (codes "--ticks=")

-- a short path of plain letters with a dot, as that of a script
abbrev pub is_path_byte : ℕ → Bool
is_path_byte b = is_name_byte b || (is_within 0x41 0x5A b || is_within 0x2D 0x2F b)

unfoldable pub is_script_path : List ℕ → Bool
is_script_path word = list_any is_dot word && (list_all is_path_byte word
    && (nat_le (length word) 200 && not (begins word (codes "-"))))
