-- A file that holds one object: its format, or why it is refused at a place.
-- Source: spa/param/format.h; the order of the refusals is this project's own.
use Rattle.std.specs.Prelude.{◌≡◌, ℕ, List, Result, Ok, Err}
use Rattle.pod_codec.specs.declared.pod.Pod.{Pod}
use Rattle.format_filter.specs.declared.format.Format.{Format}
use Rattle.format_filter.specs.declared.fault.FormatFault.{FormatFault}
use Rattle.format_filter.specs.declared.fault.FormatFault.TheVariants as F
use Rattle.format_filter.specs.FormatReading.{IsFormatOf, IsFirstFault}
use Rattle.run_results.specs.declared.status.Status.{Status}
use Rattle.run_results.specs.declared.status.Status.TheVariants as S
use Rattle.run_results.specs.declared.status.PodWhy.TheVariants as P
use Rattle.pw_top.specs.PodFile.{HoldsAs}

-- the refusal of a value that is no format
abbrev pub format_refusal : ℕ → FormatFault → Status
format_refusal place F.NotObject = S.Pod place P.NotObject
format_refusal place (F.KeyTwice key) = S.Pod place (P.KeyTwice key)
format_refusal place (F.FlagsChoice key) = S.Pod place (P.FlagsChoice key)
format_refusal place (F.BadRange key) = S.Pod place (P.BadRange key)
format_refusal place (F.BadStep key) = S.Pod place (P.BadStep key)
format_refusal place (F.EmptyChoice key) = S.Pod place (P.EmptyChoice key)
format_refusal place F.Memory = S.Memory

-- what a value is read as
abbrev pub IsFormatIn : ℕ → Pod → Result Format Status → Type 0
IsFormatIn place pod (Ok format) = IsFormatOf pod format
IsFormatIn place pod (Err status) = (fault : FormatFault) × IsFirstFault pod fault
    × (status ≡ format_refusal place fault)

-- THE FORMAT in a file's bytes
abbrev pub HoldsFormat : ℕ → List ℕ → Result Format Status → Type 0
HoldsFormat place bytes = HoldsAs (IsFormatIn place) place bytes
