-- The ticker of a run: how many asks there are from one late check to the next, 0 where there is no
-- ticker; and its count of checks. Source: this project's own.
use Rattle.std.specs.Prelude.{ℕ}
use Rattle.pw_program.specs.declared.asking.Asked.{Asked}
use Rattle.pw_program.specs.declared.asking.Asked.TheVariants as A

abbrev pub period_of : Asked → ℕ
period_of A.Never = 0
period_of (A.Every every) = every.period

abbrev pub checks_of : Asked → ℕ
checks_of A.Never = 0
checks_of (A.Every every) = every.ticks
