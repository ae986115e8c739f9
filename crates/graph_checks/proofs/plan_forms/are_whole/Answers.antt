use Rattle.std.proofs.Common.{refl, subst}
use Rattle.std.specs.Prelude.{All}
use Rattle.std.proofs.lemmas.List.{take_all}
use Rattle.std.proofs.lemmas.List.Elements.{All-more}
use Rattle.graph_checks.specs.working.FormChecks.{IsWhole}
use Rattle.graph_checks.proofs.plan_forms.are_whole.Goals as goal

pub loop-n-preserved : goal.loop-n-preserved
loop-n-preserved c =
    All-more (IsWhole c.args.plan.now c.args.epoch.now)
    c.args.nodes.now c.loop-n.n-index c.n-item.result c.loop-n-test.true c.loop-n.invariant
    (subst (IsWhole c.args.plan.now c.args.epoch.now) c.n-item.is (c.if-not-is_whole.ensures.0 refl))

pub returns : goal.returns
returns c = (
  λ t. subst (All (IsWhole c.args.plan.now c.args.epoch.now))
      (take_all c.loop-n.n-index c.args.nodes.now c.loop-n-test.false) c.loop-n.invariant,
  λ h. refl,
)
