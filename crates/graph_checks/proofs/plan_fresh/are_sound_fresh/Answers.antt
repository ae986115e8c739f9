use Rattle.std.proofs.Common.{refl, subst}
use Rattle.std.specs.Prelude.{All}
use Rattle.std.proofs.lemmas.List.{take_all}
use Rattle.std.proofs.lemmas.List.Elements.{All-more}
use Rattle.pw_graph.specs.PlanFresh.{IsSoundFresh}
use Rattle.graph_checks.proofs.plan_fresh.are_sound_fresh.Goals as goal

pub loop-fresh-preserved : goal.loop-fresh-preserved
loop-fresh-preserved c =
    All-more (IsSoundFresh c.args.plan.now) c.args.list.now c.loop-fresh.fresh-index _ c.loop-fresh-test.true c.loop-fresh.invariant
    (c.if-not-is_sound_fresh.ensures.0 refl)

pub returns : goal.returns
returns c = (
  λ t. subst (All (IsSoundFresh c.args.plan.now)) (take_all c.loop-fresh.fresh-index c.args.list.now c.loop-fresh-test.false)
      c.loop-fresh.invariant,
  λ h. refl,
)
