-- Scripts with one fault each, and what the grammar says of them.
use Rattle.std.proofs.Common.{◌≡◌, ◌∷◌, ◌++◌, refl, codes}
use Rattle.std.specs.Prelude.{Err}
use Rattle.graph_script.specs.declared.fault.ScriptWhy.TheVariants as W
use Rattle.graph_script.specs.declared.fault.ScriptFault.TheVariants as F
use Rattle.graph_script.specs.CommandWords.{names}
use Rattle.graph_script.specs.Commands.{meaning_of_command}
use Rattle.graph_script.specs.Grammar.{meaning_of_line, script_from, script_of}

a_name_in_capitals : script_of (codes "gain A 1") ≡ Err (F.At 1 W.NameForm)
unfolding script_of script_from meaning_of_line meaning_of_command names
a_name_in_capitals = refl

a_leading_zero : script_of (codes "gain a 01") ≡ Err (F.At 1 W.Number)
unfolding script_of script_from meaning_of_line meaning_of_command names
a_leading_zero = refl

too_few_words : script_of (codes "gain a") ≡ Err (F.At 1 W.Arguments)
unfolding script_of script_from meaning_of_line meaning_of_command names
too_few_words = refl

the_name_of_the_driver : script_of (codes "gain dummy 1") ≡ Err (F.At 1 W.NameTaken)
unfolding script_of script_from meaning_of_line meaning_of_command names
the_name_of_the_driver = refl

a_gain_that_drives : script_of (codes "gain a 1" ++ 0x0A ∷ codes "driver a 1") ≡ Err (F.At 2 W.NotDriverKind)
unfolding script_of script_from meaning_of_line meaning_of_command names
a_gain_that_drives = refl

pub a_late_quantum : script_of (codes "gain a 1" ++ 0x0A ∷ codes "quantum 4") ≡ Err (F.At 2 W.QuantumLate)
unfolding script_of script_from meaning_of_line meaning_of_command names
a_late_quantum = refl

a_link_of_unknown_nodes : script_of (codes "link a.out b.in") ≡ Err (F.At 1 W.NameUnknown)
unfolding script_of script_from meaning_of_line meaning_of_command names
a_link_of_unknown_nodes = refl
