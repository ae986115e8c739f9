use Rattle.std.proofs.Common.{refl, subst}
use Rattle.std.specs.Prelude.{slice_index}
use Rattle.trace_check.specs.working.NodeSets.{IsWithin, IsFirstOutside}
use Rattle.trace_check.proofs.KeptLemmas.{not_active, has_started, awaited}
use Rattle.trace_check.proofs.causes.start_cause.Goals as goal

pub first_outside-requires : goal.first_outside-requires
first_outside-requires c = λ w.
    let active = c.if-not-is_active.ensures.0 refl in
    c.requires.barred (
      active.0,
      active.1,
      (λ b. let t = c.if-has.ensures.1 b in cc),
      subst (λ l. IsWithin (slice_index l c.args.node) c.args.so_far.finished) c.as_slice.ensures w,
    )

pub returns-then-not-is_active : goal.returns-then-not-is_active
returns-then-not-is_active c = λ shape cycle since k. (
  c.args.node,
  refl,
  not_active shape cycle since c.args.order.now c.args.so_far k c.args.node (λ h. let t = c.if-not-is_active.ensures.1 h in cc),
)

pub returns-then-has : goal.returns-then-has
returns-then-has c = λ shape cycle since k. (
  c.args.node,
  refl,
  has_started shape cycle since c.args.order.now c.args.so_far k c.args.node (c.if-not-is_active.ensures.0 refl).0 (c.if-has.ensures.0 refl),
)

pub returns : goal.returns
returns c = λ shape cycle since k. (
  c.args.node,
  refl,
  awaited shape cycle since c.args.order.now c.args.so_far k c.args.node c.first_outside.result (c.if-not-is_active.ensures.0 refl).0
      (subst (λ l. IsFirstOutside (slice_index l c.args.node) c.args.so_far.finished c.first_outside.result) c.as_slice.ensures c.first_outside.ensures),
)
