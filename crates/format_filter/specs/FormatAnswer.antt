-- What the answer to an object must be: this format or this fault, unless memory runs out.
-- Source: this project's own.
use Rattle.std.specs.Prelude.{◌≡◌, ◌⊎◌, Result, Ok, Err}
use Rattle.format_filter.specs.declared.fault.FormatFault.{FormatFault}
use Rattle.format_filter.specs.declared.fault.FormatFault.TheVariants.{Memory}
use Rattle.format_filter.specs.declared.format.Format.{Format}

-- the answer is this format
abbrev pub IsGiven : Result Format FormatFault → Format → Type 0
IsGiven (Ok x) format = x ≡ format
IsGiven (Err fault) format = fault ≡ Memory

-- the answer is this fault
abbrev pub IsRefusedAs : Result Format FormatFault → FormatFault → Type 0
IsRefusedAs (Ok x) first = ⊥
IsRefusedAs (Err fault) first = (fault ≡ Memory) ⊎ (fault ≡ first)
