-- Why a script is refused, in words. Source: the script grammar and the sentences are this
-- project's own.
use Rattle.std.specs.Prelude.{ℕ, if◌then◌else◌, List, ◌++◌, codes, bytes_eq, Option, Some, None}
use Rattle.graph_script.specs.Lexical.{words_of}
use Rattle.graph_script.specs.declared.fault.ScriptWhy.{ScriptWhy}
use Rattle.graph_script.specs.declared.fault.ScriptWhy.TheVariants as F
use Rattle.graph_script.specs.declared.name.Name.{Name}
use Rattle.graph_script.specs.declared.param.Param.{Param}
use Rattle.graph_script.specs.CommandWords.{word_of}
use Rattle.fault_messages.specs.ByteFaults.{byte_said}
use Rattle.fault_messages.specs.FormMessages.{form_said}
use Rattle.fault_messages.specs.FileMessages.{limit_said}
use Rattle.fault_messages.specs.Makers.{kind_of}
use Rattle.fault_messages.specs.NameRules.{is_pair, end_name}
use Rattle.fault_messages.specs.Nearest.{meant}
use Rattle.fault_messages.specs.Places.{begins, word, quoted}
use Rattle.fault_messages.specs.PortEnds.{ends_said, port_said}
use Rattle.fault_messages.specs.ScriptWords.{script_text, of_word}
use Rattle.fault_messages.specs.UnknownNames.{unknown_name}
use Rattle.fault_messages.specs.WordRules.{unfit_in, rule_of}

-- a word that is no command, with the one that is meant
abbrev pub command_text : List ℕ → Option Name → List ℕ
command_text name None = quoted name ++ codes " is no command"
command_text name (Some other) =
    quoted name ++ (codes " is no command; did you mean " ++ (quoted (word_of other) ++ codes "?"))

unfoldable pub command_said : List ℕ → List ℕ
command_said name =
    if begins name (codes "RIFF")
    then quoted name ++ codes " is no command; a WAV file begins with RIFF"
    else command_text name (meant name)

-- a word at fault by its form or its range, with what it has to be
abbrev pub unfit_said : ScriptWhy → Option (Param × List ℕ) → List ℕ
unfit_said why None = script_text why
unfit_said why (Some unfit) =
    quoted unfit.1 ++ (codes ": " ++ rule_of unfit.0.label unfit.0.form unfit.1)

-- a port that is not there, by the lines before, which make the nodes
unfoldable pub unknown_port : List (List ℕ) → List (List ℕ) → List ℕ
unknown_port ws before =
    if is_pair ws then ends_said (word ws 1) (kind_of (end_name (word ws 1)) before)
    (word ws 2) (kind_of (end_name (word ws 2)) before)
    else port_said (word ws 1) (kind_of (word ws 1) before) (word ws 2)

-- a name that is taken: a node has it, or the driver that is always there
unfoldable pub taken_said : List ℕ → List ℕ
taken_said name =
    if bytes_eq name (codes "dummy") then quoted name ++ codes " is the built-in driver's name"
    else codes "the name is taken: " ++ quoted name

-- with the line
abbrev pub named_text : ScriptWhy → List ℕ → List (List ℕ) → List ℕ
named_text F.Byte line before = byte_said line
named_text F.Command line before = command_said (word (words_of line) 0)
named_text F.Arguments line before = form_said (word (words_of line) 0) line
named_text F.Number line before = unfit_said F.Number (unfit_in (words_of line))
named_text F.NameForm line before = unfit_said F.NameForm (unfit_in (words_of line))
named_text F.QuantumLate line before = script_text F.QuantumLate
named_text (F.TooMany which) line before = limit_said which
named_text F.NameUnknown line before = unknown_name (words_of line) before
named_text F.NameTaken line before = taken_said (word (words_of line) 1)
named_text F.PortUnknown line before = unknown_port (words_of line) before
named_text why line before = of_word why (words_of line)

-- WHY A LINE OF A SCRIPT IS REFUSED, by the line and by those before it
abbrev pub script_said : ScriptWhy → Option (List ℕ) → List (List ℕ) → List ℕ
script_said why None before = script_text why
script_said why (Some line) before = named_text why line before
