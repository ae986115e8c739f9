-- The numbers of the faults of formats. Source: this project's own.
use Rattle.std.specs.Prelude.{ℕ}
use Rattle.format_filter.specs.declared.fault.FormatFault.{FormatFault}
use Rattle.format_filter.specs.declared.fault.FormatFault.TheVariants as f

abbrev pub format_fault_number : FormatFault → ℕ
format_fault_number f.NotObject = 1
format_fault_number (f.KeyTwice _) = 2
format_fault_number (f.FlagsChoice _) = 3
format_fault_number (f.BadRange _) = 4
format_fault_number (f.BadStep _) = 5
format_fault_number (f.EmptyChoice _) = 6
format_fault_number f.Memory = 7
