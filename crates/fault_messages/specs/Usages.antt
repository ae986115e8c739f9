-- What is wrong with the words of a command line. Source: the grammar is this project's own.
use Rattle.std.specs.Prelude.{ℕ, ◌-◌, ◌==◌, ◌&&◌, not, List, ◌++◌, codes, length, nat_lt, bytes_eq, Option, Some, None, if◌then◌else◌}
use Rattle.shown_words.specs.Escaping.{escaped}
use Rattle.fault_messages.specs.MainWords.{main_meant, option_meant, wanted, is_option, has_both, is_script_path}
use Rattle.fault_messages.specs.Places.{begins, word, is_dash, quoted}

-- the first word, which is no command
unfoldable pub other_main : List ℕ → List ℕ
other_main w =
    if bytes_eq w (codes "pipegraph")
    then quoted w ++ codes " is no command, but the name of this program"
    else (if is_script_path w then quoted w ++ (codes " is no command; did you mean: pipegraph run "
    ++ (escaped w ++ codes "?"))
    else quoted w ++ codes " is no command")

abbrev pub main_text : List ℕ → Option (List ℕ) → List ℕ
main_text w None = other_main w
main_text w (Some name) =
    quoted w ++ (codes " is no command; did you mean " ++ (quoted name ++ codes "?"))

-- a word where a file is wanted
unfoldable pub file_rule : List ℕ → List ℕ
file_rule w =
    if is_dash w then quoted w ++ codes " is no file word; standard input is /dev/stdin"
    else quoted w ++ codes ": a file word has 1 to 255 bytes, the first of them no -"

unfoldable pub script_rule : List ℕ → List ℕ
script_rule w =
    if begins w (codes "-") && not (is_dash w)
    then quoted w ++ codes " is no SCRIPT; SCRIPT comes before the options"
    else file_rule w

-- a word where an option is wanted
abbrev pub no_option : List ℕ → Option (List ℕ) → List ℕ
no_option w None =
    quoted w ++ codes " is no option; these are --loops N, --ticks N, --trace and --steal"
no_option w (Some name) =
    quoted w ++ (codes " is no option; did you mean " ++ (quoted name ++ codes "?"))

unfoldable pub option_rule : List ℕ → List ℕ
option_rule w =
    if is_option w then quoted w ++ codes " is there already"
    else (if has_both w then quoted w ++ codes ": the value is a word of its own, as in --loops 2"
    else no_option w (option_meant w))

-- a word of `run` by the word before it
unfoldable pub run_rule : ℕ → List ℕ → List ℕ → List ℕ
run_rule i previous w =
    if i == 1 then script_rule w
    else (if bytes_eq previous (codes "--loops")
    then quoted w ++ codes ": N of --loops is 0 to 16, without a leading zero"
    else (if bytes_eq previous (codes "--ticks")
    then quoted w ++ codes ": N of --ticks is 1 to 1000000, without a leading zero"
    else option_rule w))

unfoldable pub argument_rule : List ℕ → List ℕ → List ℕ
argument_rule name w =
    if bytes_eq name (codes "soak")
    then quoted w ++ codes ": NUMBER is 0 to 4294967295, without a leading zero"
    else file_rule w

unfoldable pub other_rule : List ℕ → ℕ → List ℕ → List ℕ
other_rule name i w =
    if nat_lt (wanted name) i then quoted w ++ codes " is one word too many"
    else argument_rule name w

-- A WORD at fault, by its place, or one that is missing
unfoldable pub word_text : List (List ℕ) → ℕ → List ℕ
word_text words i =
    if i == 0 then main_text (word words 0) (main_meant (word words 0))
    else (if bytes_eq (word words 0) (codes "run")
    then run_rule i (word words (i - 1)) (word words i)
    else other_rule (word words 0) i (word words i))

unfoldable pub missing_text : List ℕ → List ℕ
missing_text before = codes "a word is missing after " ++ quoted before

unfoldable pub usage_text : List (List ℕ) → ℕ → List ℕ
usage_text words i =
    if nat_lt i (length words) then word_text words i else missing_text (word words (i - 1))
