-- Numbers of the causes of a script's fault, as they are printed; 13 is not used. Source: this
-- project's own.
use Rattle.std.specs.Prelude.{ℕ}
use Rattle.graph_script.specs.declared.fault.ScriptWhy.{ScriptWhy}
use Rattle.graph_script.specs.declared.fault.ScriptWhy.TheVariants as W

abbrev pub why_number : ScriptWhy → ℕ
why_number W.Byte = 1
why_number W.Command = 2
why_number W.Arguments = 3
why_number W.Number = 4
why_number W.NameForm = 5
why_number W.NameTaken = 6
why_number W.NameUnknown = 7
why_number W.PortUnknown = 8
why_number W.QuantumLate = 9
why_number W.NotDriverKind = 10
why_number W.OfferLate = 11
why_number (W.TooMany which) = 12
why_number W.AsyncLate = 14
