-- Sound escapes: a digit is below 16. Source: this project's own.
use Rattle.std.specs.Prelude.{◌<◌}
use Rattle.dump_reading.specs.declared.strings.Escape.{Escape}
use Rattle.dump_reading.specs.declared.strings.Escape.TheVariants as E

abbrev pub IsEscape : Escape → Type 0
IsEscape (E.High h) = h < 16
IsEscape other = Unit {0}
