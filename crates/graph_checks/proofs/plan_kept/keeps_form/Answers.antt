use Rattle.std.proofs.Common.{refl, arith}
use Rattle.graph_checks.specs.working.FreshChecks.{AgreesIn, IsNamed}
use Rattle.graph_checks.proofs.FreshChecksLemmas.{between_more, keeps_until, keeps_to_end, keeps_at}
use Rattle.graph_checks.proofs.plan_kept.keeps_form.Goals as goal

pub returns-then-is_named : goal.returns-then-is_named
returns-then-is_named c = (
  λ t. keeps_until c.args.plan.now c.args.i c.loop-j.j c.args.a.now c.loop-j.invariant.same (omega arith) (c.if-is_named.ensures.0 refl),
  λ h. refl,
)

pub returns-then-not-agrees_in : goal.returns-then-not-agrees_in
returns-then-not-agrees_in c = (
  λ f. cc,
  λ h. c.if-not-agrees_in.ensures.1 (keeps_at c.args.plan.now c.args.i c.loop-j.j c.args.a.now c.loop-j.invariant.stays
      (λ n. let t = c.if-is_named.ensures.1 n in cc) (omega arith) (omega arith) h),
)

pub loop-j-preserved : goal.loop-j-preserved
loop-j-preserved c = record {
  stays = between_more (λ k. ¬ IsNamed c.args.plan.now k c.args.a.now.port.node) c.args.i c.loop-j.j c.loop-j.invariant.stays
      (λ n. let t = c.if-is_named.ensures.1 n in cc);
  same = between_more (λ k. AgreesIn c.args.plan.now k c.args.a.now) c.args.i c.loop-j.j c.loop-j.invariant.same
      (c.if-not-agrees_in.ensures.0 refl);
}

pub returns : goal.returns
returns c = (λ t. keeps_to_end c.args.plan.now c.args.i c.loop-j.j c.args.a.now c.loop-j.invariant.same (omega arith), λ h. refl)
