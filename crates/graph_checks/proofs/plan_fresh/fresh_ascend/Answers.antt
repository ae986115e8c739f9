use Rattle.std.proofs.Common.{◌<◌, rules}
use Rattle.pw_graph.specs.declared.plan.Fresh.{Fresh}
use Rattle.pw_graph.proofs.ShapeLemmas.{pairs_more, pairs_at}
use Rattle.graph_checks.proofs.plan_fresh.fresh_ascend.Goals as goal

abbrev Below : Fresh → Fresh → Type 0
Below x y = x.node < y.node

pub loop-i-preserved : goal.loop-i-preserved
loop-i-preserved c = pairs_more Below c.args.list.now c.loop-i.i _ c.loop-i-test.true c.loop-i.invariant
    (c.if-not-is_above.ensures.0 (search rules))

pub returns-then-not-is_above : goal.returns-then-not-is_above
returns-then-not-is_above c = (λ f. cc, λ h. c.if-not-is_above.ensures.1 (pairs_at Below c.args.list.now c.loop-i.i _ c.loop-i-test.true h))
