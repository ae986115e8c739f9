use Rattle.std.proofs.Common.{refl}
use Rattle.trace_check.proofs.KeptLemmas.{left}
use Rattle.trace_check.proofs.causes.left_cause.Goals as goal

pub returns : goal.returns
returns c = λ shape since next k ends.
    (refl, ends, left shape c.args.in_cycle since c.args.order.now c.args.so_far k c.first_outside.result c.first_outside.ensures)
