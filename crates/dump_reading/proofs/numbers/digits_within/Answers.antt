use Rattle.std.proofs.Common.{◌+◌, arith}
use Rattle.std.proofs.lemmas.Grind.{common_steps}
use Rattle.dump_reading.proofs.NumeralLemmas.{digits_number-take}
use Rattle.dump_reading.proofs.numbers.digits_within.Goals as goal

pub returns-then-from-n : goal.returns-then-from-n
returns-then-from-n c = let grown = digits_number-take (c.loop-b.b-index + 1) c.args.digits.now in grind (arith, common_steps, grown)
