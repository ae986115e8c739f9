-- ONE SOAK: two answers of a number that are allowed, neither out of memory, are the same: its script has one plan.
use Rattle.std.proofs.Common.{ℕ, sym, ◌∙◌, []}
use Rattle.pw_top.specs.declared.planned.Planned.{Planned}
use Rattle.pw_top.specs.Playing.{Happened}
use Rattle.pw_top.specs.Soak.{PlansNumber, SoaksTo, SoaksPlan, IsSoakAnswer}
use Rattle.pw_top.proofs.OnePartLemmas.{HasOne, OneOutcome, part_one, binds_one}
use Rattle.pw_top.proofs.OneRunLemmas.{IsWhole, whole, plans_one}
use Rattle.soak_graph.specs.SoakChains.{soak_waves}
use Rattle.soak_graph.specs.SoakPorts.{soak_ports}
use Rattle.soak_graph.specs.SoakScript.{soak_script}
use Rattle.soak_graph.specs.SoakText.{soak_text}
use Rattle.soak_graph.proofs.PortLemmas.{script_ports}
use Rattle.soak_graph.proofs.ScriptLemmas.{text_is_read}

known : (number : ℕ) → IsWhole (soak_script number)
known number = whole (soak_text number) (soak_script number) (text_is_read number)

pub number_one : (number : ℕ) → HasOne (PlansNumber number)
number_one number = plans_one (soak_script number) (known number)
    (record { ports = soak_ports number; waves = soak_waves number; used = 0 }) (script_ports number)

soaks_one : (number : ℕ) (h : Happened) (p : Planned) → OneOutcome (SoaksTo number h p)
soaks_one number h p x y a b = a.1 ∙ sym b.1

pub soak_one : (number : ℕ) (h : Happened) → HasOne (IsSoakAnswer number h)
soak_one number h = binds_one (PlansNumber number) (SoaksPlan number h) (number_one number)
    (λ p. part_one [] (SoaksTo number h p) (soaks_one number h p))
