-- The grammar of command lines: what words ask for, or the first word at fault.
-- Source: this project's own grammar, docs/FORMATS.md.
use Rattle.std.specs.Prelude.{ℕ, ◌≤◌, if◌then◌else◌, List, [], ◌∷◌, codes, bytes_eq, Option, Some, None, unwrap_or, Result, Ok, Err}
use Rattle.command_frame.specs.Words.{Words, then_file, then_nothing}
use Rattle.ready_queues.specs.Lanes.{loops_limit}
use Rattle.graph_script.specs.Arguments.{number_of}
use Rattle.pw_top.specs.declared.options.Options.{Options}
use Rattle.pw_top.specs.declared.usage.CommandLine.{CommandLine}
use Rattle.pw_top.specs.declared.usage.CommandLine.TheVariants as C
use Rattle.pw_top.specs.declared.usage.FileWords.{FileWords}
use Rattle.pw_top.specs.declared.usage.FilePair.{FilePair}
use Rattle.pw_top.specs.Options.{options_of}
use Rattle.pw_top.specs.Words.{one_file, two_files, three_files}

-- a script and its options: one loop and no ticks where nothing is said of them
abbrev pub run_with : List ℕ → Result Options ℕ → Result CommandLine ℕ
run_with script (Ok o) = Ok (C.Run (record {
  script = script;
  crew = record { loops = unwrap_or o.loops 1; steal = o.steal };
  ticks = unwrap_or o.ticks 0;
  trace = o.trace;
}))
run_with script (Err index) = Err index

unfoldable pub run_of : Words → Result CommandLine ℕ
run_of words = then_file 1 words (λ script rest. run_with script (options_of rest))

abbrev pub dump_of : Result (List ℕ) ℕ → Result CommandLine ℕ
dump_of (Ok file) = Ok (C.Dump (record { file = file }))
dump_of (Err word) = Err word

abbrev pub filter_of : Result FileWords ℕ → Result CommandLine ℕ
filter_of (Ok w) = Ok (C.Filter (record { a = w.first; b = w.second; out = w.third }))
filter_of (Err word) = Err word

abbrev pub automate_of : Result FileWords ℕ → Result CommandLine ℕ
automate_of (Ok w) = Ok (C.Automate (record { input = w.first; seq = w.second; out = w.third }))
automate_of (Err word) = Err word

abbrev pub check_of : Result FilePair ℕ → Result CommandLine ℕ
check_of (Ok w) = Ok (C.Check (record { script = w.first; trace = w.second }))
check_of (Err word) = Err word

abbrev pub groups_of : Result (List ℕ) ℕ → Result CommandLine ℕ
groups_of (Ok script) = Ok (C.Groups (record { script = script }))
groups_of (Err word) = Err word

-- the words after `soak`: one number
abbrev pub soak_with : Option ℕ → Words → Result CommandLine ℕ
soak_with None rest = Err 1
soak_with (Some n) rest = then_nothing 2 rest (C.Soak (record { number = n }))

unfoldable pub soak_of : Words → Result CommandLine ℕ
soak_of [] = Err 1
soak_of (word ∷ rest) = soak_with (number_of 0 4294967295 word) rest

-- THE MEANING of the words
unfoldable pub command_of : Words → Result CommandLine ℕ
command_of [] = Err 0
command_of (name ∷ rest) =
    if bytes_eq name (codes "run") then run_of rest
    else (if bytes_eq name (codes "dump") then dump_of (one_file rest)
    else (if bytes_eq name (codes "filter") then filter_of (three_files rest)
    else (if bytes_eq name (codes "automate") then automate_of (three_files rest)
    else (if bytes_eq name (codes "check") then check_of (two_files rest)
    else (if bytes_eq name (codes "soak") then soak_of rest
    else (if bytes_eq name (codes "groups") then groups_of (one_file rest)
    else Err 0))))))

-- the asks of a ticker from one late check to the next; 0 where no run asks for any
abbrev pub ticks_in : Result CommandLine ℕ → ℕ
ticks_in (Ok (C.Run c)) = c.ticks
ticks_in other = 0

abbrev pub HasFewLoops : CommandLine → Type 0
HasFewLoops (C.Run c) = c.crew.loops ≤ loops_limit
HasFewLoops other = Unit {0}
