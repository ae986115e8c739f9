use Rattle.std.proofs.Common.{None, refl}
use Rattle.trace_check.proofs.AdmittingLemmas.{within_finished}
use Rattle.trace_check.proofs.causes.missing_cause.Goals as goal

pub left_cause-requires : goal.left_cause-requires
left_cause-requires c = λ w. let t = c.if-is_within.ensures.1 w in cc

pub returns-then-is_within : goal.returns-then-is_within
returns-then-is_within c = λ shape since k.
    (refl, within_finished shape c.args.in_cycle k.sound c.args.order.now k.ordered since k.allowed c.args.so_far k.stands (c.if-is_within.ensures.0 refl))

pub returns-else-is_within : goal.returns-else-is_within
returns-else-is_within c = λ shape since k. c.left_cause.ensures shape since None k tt
