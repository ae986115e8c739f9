use Rattle.std.proofs.Common.{refl, below_more}
use Rattle.graph_checks.proofs.plan_forms.has_all_forms.Goals as goal

pub loop-port-preserved : goal.loop-port-preserved
loop-port-preserved c = below_more _ _ c.loop-port.invariant (c.if-not-has_some_form.ensures.0 refl)
