-- What should be at a place of a command line, in words, and the names that may be meant there.
-- Source: the grammar is this project's own, specs/Words.antt and FormatWords.antt.
use Rattle.std.specs.Prelude.{ℕ, ◌==◌, List, [], ◌∷◌, ◌++◌, codes, Option, Some, None, if◌then◌else◌}
use Rattle.pod_text.specs.declared.source.Source.{Source}
use Rattle.pod_text.specs.declared.source.Source.TheVariants as Src

-- the commands
abbrev pub commands : List (List ℕ)
commands = codes "gains" ∷ codes "pod" ∷ codes "format" ∷ []

-- a file that is read, and one that is written
abbrev pub in_rule : Source → List ℕ
in_rule Src.Gains = codes "LIST is a file of lines `FRAME GAIN`, or - for standard input; "
    ++ codes "a file has 1 to 255 bytes and does not begin with -"
in_rule Src.Dump = codes "TEXT is a file that has what `pipegraph dump` prints, or - for standard "
    ++ codes "input; a file has 1 to 255 bytes and does not begin with -"

abbrev pub out_rule : List ℕ
out_rule = codes "OUT is a file, or - for standard output; "
    ++ codes "a file has 1 to 255 bytes and does not begin with -"

-- of `gains` and of `pod`
unfoldable pub made_rule : Source → ℕ → List ℕ
made_rule source i =
    if i == 1 then in_rule source
    else (if i == 2 then out_rule else codes "no word comes after OUT")

-- the numbers of a format
abbrev pub values_rule : List ℕ
values_rule = codes "VALUES is A, A|B, MIN..MAX or MIN..MAX/STEP, of whole numbers up to "
    ++ codes "2147483647 without a leading zero; MIN is at most MAX, and STEP at least 1"

-- of `format`
unfoldable pub format_rule : ℕ → List ℕ
format_rule i =
    if i == 1 then out_rule
    else (if i == 2 then codes "after OUT comes rate, as in: format OUT rate 48000 channels 2"
    else (if i == 3 then values_rule
    else (if i == 4
    then codes "after the rate comes channels, as in: format OUT rate 48000 channels 2"
    else (if i == 5 then values_rule
    else (if i == 6 then codes "after the channels comes mandatory, or nothing"
    else (if i == 7 then codes "KEY is rate or channels"
    else codes "no word comes after KEY"))))))

-- THE RULE of a place, by what the command reads
abbrev pub rule_at : Option Source → ℕ → List ℕ
rule_at (Some source) i = made_rule source i
rule_at None i = format_rule i

-- the names that a place of `format` may have
unfoldable pub format_names : ℕ → List (List ℕ)
format_names i =
    if i == 2 then codes "rate" ∷ []
    else (if i == 4 then codes "channels" ∷ []
    else (if i == 6 then codes "mandatory" ∷ []
    else (if i == 7 then codes "rate" ∷ codes "channels" ∷ [] else [])))

abbrev pub names_at : Option Source → ℕ → List (List ℕ)
names_at (Some source) i = []
names_at None i = format_names i
