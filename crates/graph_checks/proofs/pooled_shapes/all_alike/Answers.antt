use Rattle.pw_graph.specs.Pools.{AreAlike}
use Rattle.std.proofs.Common.{rules}
use Rattle.pw_graph.proofs.ShapeLemmas.{pairs_more, pairs_at}
use Rattle.graph_checks.proofs.pooled_shapes.all_alike.Goals as goal

pub loop-i-preserved : goal.loop-i-preserved
loop-i-preserved c = pairs_more AreAlike c.args.links.now c.loop-i.i _ c.loop-i-test.true c.loop-i.invariant
    (c.if-not-is_like.ensures.0 (search rules))

pub returns-then-not-is_like : goal.returns-then-not-is_like
returns-then-not-is_like c = (
  λ f. cc,
  λ h. c.if-not-is_like.ensures.1
      (pairs_at AreAlike c.args.links.now c.loop-i.i _ c.loop-i-test.true h),
)
