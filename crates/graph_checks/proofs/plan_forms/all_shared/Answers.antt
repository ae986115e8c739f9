use Rattle.std.proofs.Common.{refl, rules, arith}
use Rattle.pw_graph.specs.PlanForms.{AreShared}
use Rattle.pw_graph.proofs.ShapeLemmas.{pairs_more, pairs_at}
use Rattle.graph_checks.proofs.plan_forms.all_shared.Goals as goal

pub loop-i-preserved : goal.loop-i-preserved
loop-i-preserved c = pairs_more (AreShared c.args.plan.now) c.args.forms.now c.loop-i.i _ c.loop-i-test.true c.loop-i.invariant
    (c.if-not-is_shared.ensures.0 (search rules))

pub returns-then-not-is_shared : goal.returns-then-not-is_shared
returns-then-not-is_shared c = (
  λ f. cc,
  λ h. c.if-not-is_shared.ensures.1
      (pairs_at (AreShared c.args.plan.now) c.args.forms.now c.loop-i.i _ c.loop-i-test.true h),
)

pub returns : goal.returns
returns c = (λ t j k d jk kl. c.loop-i.invariant j k d jk (omega arith), λ h. refl)
