use Rattle.std.proofs.Common.{refl, subst, sym}
use Rattle.std.specs.Prelude.{All}
use Rattle.std.proofs.lemmas.List.{take_all}
use Rattle.std.proofs.lemmas.List.Elements.{All-more}
use Rattle.pw_graph.specs.SoundPlan.{IsSoundEpoch}
use Rattle.graph_checks.proofs.plan_soundness.are_sound_epochs.Goals as goal

pub loop-epoch-preserved : goal.loop-epoch-preserved
loop-epoch-preserved c =
    All-more (IsSoundEpoch c.args.plan.now)
    c.args.epochs.now c.loop-epoch.epoch-index c.epoch-item.result c.loop-epoch-test.true c.loop-epoch.invariant
    (subst (IsSoundEpoch c.args.plan.now) c.epoch-item.is (c.if-not-is_sound_epoch.ensures.0 refl))

pub returns-then-not-is_sound_epoch : goal.returns-then-not-is_sound_epoch
returns-then-not-is_sound_epoch c = (
  λ f. cc,
  λ h. c.if-not-is_sound_epoch.ensures.1 (subst (IsSoundEpoch c.args.plan.now) (sym c.epoch-item.is)
      (h c.loop-epoch.epoch-index c.epoch-item.result c.loop-epoch-test.true)),
)

pub returns : goal.returns
returns c = (
  λ t. subst (All (IsSoundEpoch c.args.plan.now)) (take_all c.loop-epoch.epoch-index c.args.epochs.now c.loop-epoch-test.false)
      c.loop-epoch.invariant,
  λ h. refl,
)
