-- Laws of `specs/FormatFile.antt`: what a read value says of the file that held it.
use Rattle.std.proofs.Common.{◌≡◌, ℕ, [], sym, ap, subst, inl, inr, ◌∙◌}
use Rattle.std.specs.Prelude.{◌⊎◌, Err}
use Rattle.pod_codec.specs.declared.pod.Pod.{Pod}
use Rattle.format_filter.specs.declared.fault.FormatFault.{FormatFault}
use Rattle.format_filter.specs.declared.fault.FormatFault.TheVariants as F
use Rattle.format_filter.specs.FormatReading.{IsFirstFault}
use Rattle.run_results.specs.declared.status.Status.{Status}
use Rattle.command_frame.proofs.AllowedLemmas.{IsPlain}
use Rattle.run_results.specs.Statuses.{means}
use Rattle.pw_top.specs.working.Ending.{Ends}
use Rattle.pw_top.specs.Allowed.{Reads}
use Rattle.pw_top.specs.FormatFile.{format_refusal, IsFormatIn}
use Rattle.pw_top.proofs.AllowedLemmas.{part_refuses, part_memory}

plain : (place : ℕ) (fault : FormatFault) → IsPlain (means (format_refusal place fault))
plain place F.NotObject = tt
plain place (F.KeyTwice key) = tt
plain place (F.FlagsChoice key) = tt
plain place (F.BadRange key) = tt
plain place (F.BadStep key) = tt
plain place (F.EmptyChoice key) = tt
plain place F.Memory = tt

-- a first fault, or lack of memory
pub refused : (place : ℕ) (pod : Pod) (fault : FormatFault) (status : Status) → status ≡ format_refusal place fault
    → (fault ≡ F.Memory) ⊎ IsFirstFault pod fault → Ends (Reads (IsFormatIn place pod)) (Err status)
refused place pod fault status e (inl memory) =
    subst (λ s. Ends (Reads (IsFormatIn place pod)) (Err s)) (sym (e ∙ ap (format_refusal place) memory))
    (part_memory [] (IsFormatIn place pod))
refused place pod fault status e (inr h) =
    part_refuses [] (IsFormatIn place pod) status (fault, h, e) (subst (λ s. IsPlain (means s)) (sym e) (plain place fault))
