use Rattle.std.proofs.Common.{refl, subst}
use Rattle.std.specs.Prelude.{Contains, slice_index}
use Rattle.trace_check.specs.working.NodeSets.{IsDifference}
use Rattle.pw_graph.specs.declared.event.Event.TheVariants.{Start}
use Rattle.trace_check.proofs.KeptLemmas.{has_started, called_late}
use Rattle.trace_check.proofs.causes.tick_cause.Goals as goal

pub first_outside-requires : goal.first_outside-requires
first_outside-requires c = λ w.
    let d = subst (λ l. IsDifference (slice_index l c.args.driver) c.args.so_far.finished c.difference.result) c.as_slice.ensures c.difference.ensures in
    c.requires.barred (
      c.if-so_far.false,
      (λ b. let t = c.if-has.ensures.1 b in cc),
      (λ n small b. ((d n small).0 (w n small b)).0),
      λ n small b. ((d n small).0 (w n small b)).1,
    )

pub returns-then-so_far : goal.returns-then-so_far
returns-then-so_far c = λ shape cycle since k is.
    let x = k.stands.ticked.0 c.if-so_far.true in (c.args.late, refl, x.0, x.1, x.2)

pub returns-then-has : goal.returns-then-has
returns-then-has c = λ shape cycle since k is. (
  c.args.late,
  refl,
  subst (λ d. Contains since (Start cycle d)) is
      (has_started shape cycle since c.args.order.now c.args.so_far k c.args.driver c.requires.driver (c.if-has.ensures.0 refl)),
)

pub returns : goal.returns
returns c = λ shape cycle since k is. (
  c.args.late,
  refl,
  called_late shape cycle since c.args.order.now c.args.so_far k c.args.driver c.args.late c.difference.result c.first_outside.result
      c.requires.driver is
      (subst (λ l. IsDifference (slice_index l c.args.driver) c.args.so_far.finished c.difference.result) c.as_slice.ensures c.difference.ensures)
      c.first_outside.ensures,
)
