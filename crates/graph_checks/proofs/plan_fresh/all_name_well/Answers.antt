use Rattle.std.proofs.Common.{refl, subst, sym}
use Rattle.std.specs.Prelude.{All}
use Rattle.std.proofs.lemmas.List.{take_all}
use Rattle.std.proofs.lemmas.List.Elements.{All-more}
use Rattle.graph_checks.specs.working.FreshChecks.{NamesWell}
use Rattle.graph_checks.proofs.plan_fresh.all_name_well.Goals as goal

pub loop-epoch-preserved : goal.loop-epoch-preserved
loop-epoch-preserved c =
    All-more (NamesWell c.args.plan.now)
    c.args.epochs.now c.loop-epoch.epoch-index c.epoch-item.result c.loop-epoch-test.true c.loop-epoch.invariant
    (subst (NamesWell c.args.plan.now) c.epoch-item.is (c.if-not-names_well.ensures.0 refl))

pub returns-then-not-names_well : goal.returns-then-not-names_well
returns-then-not-names_well c = (
  λ f. cc,
  λ h. c.if-not-names_well.ensures.1 (subst (NamesWell c.args.plan.now) (sym c.epoch-item.is)
      (h c.loop-epoch.epoch-index c.epoch-item.result c.loop-epoch-test.true)),
)

pub returns : goal.returns
returns c = (
  λ t. subst (All (NamesWell c.args.plan.now)) (take_all c.loop-epoch.epoch-index c.args.epochs.now c.loop-epoch-test.false)
      c.loop-epoch.invariant,
  λ h. refl,
)
