use Rattle.std.proofs.Common.{IsTrue, rules}
use Rattle.pw_graph.specs.declared.plan.PortForm.{PortForm}
use Rattle.pw_graph.specs.Pools.{is_before}
use Rattle.pw_graph.proofs.ShapeLemmas.{pairs_more, pairs_at}
use Rattle.graph_checks.proofs.plan_forms.forms_ascend.Goals as goal

abbrev Before : PortForm → PortForm → Type 0
Before f g = IsTrue (is_before f.port g.port)

pub loop-i-preserved : goal.loop-i-preserved
loop-i-preserved c = pairs_more Before c.args.forms.now c.loop-i.i _ c.loop-i-test.true c.loop-i.invariant
    (c.if-not-is_after.ensures.0 (search rules))

pub returns-then-not-is_after : goal.returns-then-not-is_after
returns-then-not-is_after c = (
  λ f. cc,
  λ h. c.if-not-is_after.ensures.1
      (pairs_at Before c.args.forms.now c.loop-i.i _ c.loop-i-test.true h),
)
