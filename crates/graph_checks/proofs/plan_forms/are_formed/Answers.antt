use Rattle.std.proofs.Common.{refl, subst}
use Rattle.std.specs.Prelude.{All}
use Rattle.std.proofs.lemmas.List.{take_all}
use Rattle.std.proofs.lemmas.List.Elements.{All-more}
use Rattle.pw_graph.specs.PlanForms.{IsFormed}
use Rattle.graph_checks.proofs.plan_forms.are_formed.Goals as goal

pub loop-link-preserved : goal.loop-link-preserved
loop-link-preserved c =
    All-more (IsFormed c.args.plan.now c.args.epoch.now)
    c.args.links.now c.loop-link.link-index _ c.loop-link-test.true c.loop-link.invariant (c.if-not-is_formed.ensures.0 refl)

pub returns : goal.returns
returns c = (
  λ t. subst (All (IsFormed c.args.plan.now c.args.epoch.now))
      (take_all c.loop-link.link-index c.args.links.now c.loop-link-test.false) c.loop-link.invariant,
  λ h. refl,
)
