use Rattle.std.proofs.Common.{refl, subst}
use Rattle.std.specs.Prelude.{All}
use Rattle.std.proofs.lemmas.List.{take_all}
use Rattle.std.proofs.lemmas.List.Elements.{All-more}
use Rattle.graph_checks.specs.working.FreshChecks.{IsKeptForm}
use Rattle.graph_checks.proofs.plan_kept.are_kept_forms.Goals as goal

pub loop-a-preserved : goal.loop-a-preserved
loop-a-preserved c =
    All-more (IsKeptForm c.args.plan.now c.args.i) c.args.forms.now c.loop-a.a-index _ c.loop-a-test.true c.loop-a.invariant
    (c.if-not-is_kept_form.ensures.0 refl)

pub returns : goal.returns
returns c = (
  λ t. subst (All (IsKeptForm c.args.plan.now c.args.i))
      (take_all c.loop-a.a-index c.args.forms.now c.loop-a-test.false) c.loop-a.invariant,
  λ h. refl,
)
