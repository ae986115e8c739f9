use Rattle.std.proofs.Common.{refl}
use Rattle.trace_check.proofs.KeptLemmas.{has_finished, not_started}
use Rattle.trace_check.proofs.causes.finish_cause.Goals as goal

pub returns-then-is_finished : goal.returns-then-is_finished
returns-then-is_finished c = λ shape cycle since order k.
    let both = c.if-is_finished.ensures.0 refl in
    (c.args.node, refl, has_finished shape cycle since order c.args.so_far k c.args.node both.0 both.1)

pub returns-else-is_finished : goal.returns-else-is_finished
returns-else-is_finished c = λ shape cycle since order k. (
  c.args.node,
  refl,
  not_started shape cycle since order c.args.so_far k c.args.node
      (λ h. c.requires.barred (h.0, h.1, λ f. let t = c.if-is_finished.ensures.1 (h.0, f) in cc)),
)
