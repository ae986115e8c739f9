use Rattle.std.proofs.Common.{refl, subst}
use Rattle.std.specs.Prelude.{All}
use Rattle.std.proofs.lemmas.List.{take_all}
use Rattle.std.proofs.lemmas.List.Elements.{All-more}
use Rattle.graph_checks.specs.working.FormChecks.{IsEnded}
use Rattle.graph_checks.proofs.plan_soundness.are_ended.Goals as goal

pub loop-form-preserved : goal.loop-form-preserved
loop-form-preserved c =
    All-more (IsEnded c.args.plan.now) c.args.forms.now c.loop-form.form-index _ c.loop-form-test.true c.loop-form.invariant
    (c.if-not-is_ended.ensures.0 refl)

pub returns : goal.returns
returns c = (
  λ t. subst (All (IsEnded c.args.plan.now)) (take_all c.loop-form.form-index c.args.forms.now c.loop-form-test.false)
      c.loop-form.invariant,
  λ h. refl,
)
