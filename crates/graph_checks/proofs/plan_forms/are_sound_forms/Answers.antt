use Rattle.std.proofs.Common.{refl, subst}
use Rattle.std.specs.Prelude.{All}
use Rattle.std.proofs.lemmas.List.{take_all}
use Rattle.std.proofs.lemmas.List.Elements.{All-more}
use Rattle.pw_graph.specs.PlanForms.{IsSoundForm}
use Rattle.graph_checks.proofs.plan_forms.are_sound_forms.Goals as goal

pub loop-form-preserved : goal.loop-form-preserved
loop-form-preserved c =
    All-more (IsSoundForm c.args.plan.now c.args.epoch.now)
    c.args.forms.now c.loop-form.form-index _ c.loop-form-test.true c.loop-form.invariant (c.if-not-is_sound_form.ensures.0 refl)

pub returns : goal.returns
returns c = (
  λ t. subst (All (IsSoundForm c.args.plan.now c.args.epoch.now))
      (take_all c.loop-form.form-index c.args.forms.now c.loop-form-test.false) c.loop-form.invariant,
  λ h. refl,
)
