use Rattle.std.proofs.Common.{◌≡◌, ◌≤◌, take}
use Rattle.dump_reading.specs.working.Numerals.{digits_number}
use Rattle.dump_reading.proofs.numbers.digits_within.Given as goal

abbrev pub invariant-loop-b : goal.invariant-loop-b
invariant-loop-b l = record { value : l.n ≡ digits_number (take l.b-index l.digits); below : l.n ≤ l.high }
