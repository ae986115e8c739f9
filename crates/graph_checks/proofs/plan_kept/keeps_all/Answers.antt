use Rattle.std.proofs.Common.{refl, below_more}
use Rattle.graph_checks.proofs.plan_kept.keeps_all.Goals as goal

pub loop-i-preserved : goal.loop-i-preserved
loop-i-preserved c = below_more _ _ c.loop-i.invariant (c.if-not-keeps_epoch.ensures.0 refl)
