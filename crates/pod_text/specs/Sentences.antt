-- The sentence of a status, by the words of the command line, the line of the list that it names,
-- and why the system refused a file. Source: this project's own.
use Rattle.std.specs.Prelude.{ℕ, List, [], ◌++◌, codes, decimal, Option, Some}
use Rattle.system_files.specs.declared.why.FileWhy.{FileWhy}
use Rattle.system_files.specs.Reasons.{why_said}
use Rattle.word_hints.specs.ShellSigns.{shell_hint}
use Rattle.pod_text.specs.declared.source.Source.{Source}
use Rattle.pod_text.specs.declared.source.Source.TheVariants as Src
use Rattle.pod_text.specs.declared.status.Status.{Status}
use Rattle.pod_text.specs.declared.status.Status.TheVariants as S
use Rattle.pod_text.specs.LineFaults.{list_line, dump_line}
use Rattle.pod_text.specs.Showing.{shown, shown_line}
use Rattle.pod_text.specs.UsageText.{usage_text}
use Rattle.pod_text.specs.UsageFaults.{word, usage_fault}
use Rattle.pod_text.specs.Words.{source_of}

-- what is wrong with the file that a word names
abbrev pub at_word : List (List ℕ) → ℕ → List ℕ → List ℕ
at_word words place what = (shown (word words place) ++ codes ": ") ++ what

-- more than a POD may have, by what was read
abbrev pub too_long_said : Option Source → List ℕ
too_long_said (Some Src.Gains) = codes "it has more than 21845 points, so its POD would be "
    ++ codes "longer than 1048576 bytes"
too_long_said other = codes "its POD would be longer than 1048576 bytes"

-- a line at fault, and what is wrong with it
abbrev pub line_fault : List (List ℕ) → ℕ → List ℕ → List ℕ → List ℕ
line_fault words number line what =
    at_word words 1 (codes "line ") ++ (decimal number ++ (codes ": " ++ (shown_line line
    ++ (codes ": " ++ what))))

-- of a file that is not there: a sign of the shell in its name
abbrev pub absent_said : List ℕ → List ℕ
absent_said name = codes "there is no such file" ++ shell_hint name

-- a file that the system refuses, and why, where that is known
abbrev pub refused_text : List (List ℕ) → ℕ → List ℕ → Option FileWhy → List ℕ
refused_text words place what reason = at_word words place what ++ why_said reason

abbrev pub fault_text : Status → List (List ℕ) → List ℕ → Option FileWhy → List ℕ
fault_text S.Ok words line reason = []
fault_text (S.Usage i) words line reason = usage_fault words i
fault_text (S.List number why) words line reason = line_fault words number line (list_line why line)
fault_text (S.Text number why) words line reason = line_fault words number line (dump_line why line)
fault_text S.TooLong words line reason = at_word words 1 (too_long_said (source_of (word words 0)))
fault_text (S.Absent place) words line reason = at_word words place (absent_said (word words place))
fault_text (S.ReadFault place) words line reason =
    refused_text words place (codes "it cannot be read") reason
fault_text (S.WriteFault place) words line reason =
    refused_text words place (codes "it cannot be written") reason
fault_text S.PutFault words line reason = codes "standard output cannot be written"
fault_text (S.Limit place) words line reason =
    at_word words place (codes "it is longer than 33554432 bytes")
fault_text S.Memory words line reason = codes "no memory was left"

-- what follows it
abbrev pub after : Status → List ℕ
after (S.Usage i) = usage_text
after status = []

-- THE SENTENCE
abbrev pub sentence_of : Status → List (List ℕ) → List ℕ → Option FileWhy → List ℕ
sentence_of status words line reason =
    (codes "pipegraph-pods: " ++ fault_text status words line reason)
    ++ (codes "\n" ++ after status)
