use Rattle.std.proofs.Common.{refl}
use Rattle.graph_checks.proofs.plan_soundness.is_sound_epoch.Goals as goal

pub returns : goal.returns
returns c = (
  λ t. record {
    shape = c.if-not-is_pooled_shape.ensures.0 refl;
    quantum = c.if-epoch-plan.false;
    places = c.if-not-has_sound_places.ensures.0 refl;
    forms = c.if-not-has_sound_forms.ensures.0 refl;
    ends = c.ends_with.ensures.0 t;
  },
  λ h. c.ends_with.ensures.1 h.ends,
)
