-- The least number has no positive one.
use Rattle.std.proofs.Common.{arith}
use Rattle.std.proofs.lemmas.Int.{ints}
use Rattle.dump_reading.proofs.numbers.negated.Goals as goal

pub returns : goal.returns
returns c = omega (arith, ints)
