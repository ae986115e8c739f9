-- Faults of a script in words: without the line, and of one word of it. Source: this project's
-- own.
use Rattle.std.specs.Prelude.{ℕ, List, [], ◌++◌, codes}
use Rattle.graph_script.specs.declared.fault.ScriptWhy.{ScriptWhy}
use Rattle.graph_script.specs.declared.fault.ScriptWhy.TheVariants as F
use Rattle.fault_messages.specs.FileMessages.{limit_said}
use Rattle.fault_messages.specs.Places.{word, quoted}

-- where the line is not at hand
abbrev pub script_text : ScriptWhy → List ℕ
script_text F.Byte = codes "a byte that no script may have"
script_text F.Command = codes "the first word is no command"
script_text F.Arguments = codes "too few words, or too many"
script_text F.Number = codes "a number is out of range, or has the wrong form"
script_text F.NameForm = codes "a name, a port or a file word has the wrong form"
script_text F.NameTaken = codes "the name is taken"
script_text F.NameUnknown = codes "no line before this one makes a node of this name"
script_text F.PortUnknown = codes "the node has no such port"
script_text F.QuantumLate = codes "quantum must stand before every other command"
script_text F.NotDriverKind = codes "only a sink or a meter may drive"
script_text F.OfferLate = codes "offers must stand before the links of their node"
script_text (F.TooMany which) = limit_said which
script_text F.AsyncLate = codes "async must stand before the links of its node"

-- the word after the command, and what is before and after it
abbrev pub said_before : ScriptWhy → List ℕ
said_before F.OfferLate = codes "offers must stand before the links of their node: "
said_before F.AsyncLate = codes "async must stand before the links of its node: "
said_before _ = []

abbrev pub said_behind : ScriptWhy → List ℕ
said_behind F.NotDriverKind = codes " is neither a sink nor a meter, and cannot drive"
said_behind _ = []

abbrev pub of_word : ScriptWhy → List (List ℕ) → List ℕ
of_word why words = said_before why ++ (quoted (word words 1) ++ said_behind why)
