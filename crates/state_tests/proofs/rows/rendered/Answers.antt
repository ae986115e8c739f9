use Rattle.std.proofs.Common.{refl}
use Rattle.cycle_model.proofs.SoundPlanLemmas.{sound_is_renderable}
use Rattle.state_tests.proofs.rows.rendered.Goals as goal

pub render-requires : goal.render-requires
render-requires c = record {
  renderable = sound_is_renderable _ c.args.waves.now (c.if-not-is_sound_plan.ensures.0 refl)
      (c.if-not-waves_fit.ensures.0 refl);
}
