use Rattle.std.proofs.Common.{refl, subst, sym}
use Rattle.std.specs.Prelude.{All}
use Rattle.std.proofs.lemmas.List.{take_all}
use Rattle.std.proofs.lemmas.List.Elements.{All-more}
use Rattle.graph_checks.specs.working.FormChecks.{IsPlace}
use Rattle.graph_checks.proofs.plan_soundness.are_places.Goals as goal

pub loop-n-preserved : goal.loop-n-preserved
loop-n-preserved c =
    All-more (IsPlace c.args.plan.now) c.args.nodes.now c.loop-n.n-index c.n-item.result c.loop-n-test.true c.loop-n.invariant
    (subst (IsPlace c.args.plan.now) c.n-item.is (c.if-not-is_place.ensures.0 refl))

pub returns-then-not-is_place : goal.returns-then-not-is_place
returns-then-not-is_place c = (
  λ f. cc,
  λ h. c.if-not-is_place.ensures.1 (subst (IsPlace c.args.plan.now) (sym c.n-item.is)
      (h c.loop-n.n-index c.n-item.result c.loop-n-test.true)),
)

pub returns : goal.returns
returns c = (
  λ t. subst (All (IsPlace c.args.plan.now)) (take_all c.loop-n.n-index c.args.nodes.now c.loop-n-test.false) c.loop-n.invariant,
  λ h. refl,
)
