use Rattle.pw_graph.specs.SoundShape.{AreApart}
use Rattle.std.proofs.Common.{rules}
use Rattle.pw_graph.proofs.ShapeLemmas.{pairs_more, pairs_at}
use Rattle.graph_checks.proofs.soundness.all_apart.Goals as goal

pub loop-i-preserved : goal.loop-i-preserved
loop-i-preserved c = pairs_more AreApart c.args.links.now c.loop-i.i _ c.loop-i-test.true c.loop-i.invariant
    (c.if-not-is_new.ensures.0 (search rules))

pub returns-then-not-is_new : goal.returns-then-not-is_new
returns-then-not-is_new c = (λ f. cc, λ h. c.if-not-is_new.ensures.1 (pairs_at AreApart c.args.links.now c.loop-i.i _ c.loop-i-test.true h))
