use Rattle.std.proofs.Common.{refl, subst, sym}
use Rattle.std.specs.Prelude.{All}
use Rattle.graph_checks.specs.working.FormChecks.{IsPlace}
use Rattle.graph_checks.proofs.FormChecksLemmas.{places_by_number}
use Rattle.graph_checks.proofs.plan_soundness.has_sound_places.Goals as goal

pub returns-then-not-are_places : goal.returns-then-not-are_places
returns-then-not-are_places c = (
  λ f. cc,
  λ h. c.if-not-are_places.ensures.1 (subst (All (IsPlace c.args.plan.now)) (sym c.as_slice.ensures)
      ((places_by_number c.args.plan.now c.args.epoch.now).1 h.places)),
)

pub returns-then-has_sound_dummy : goal.returns-then-has_sound_dummy
returns-then-has_sound_dummy c = (
  λ t. record {
    places = (places_by_number c.args.plan.now c.args.epoch.now).0
        (subst (All (IsPlace c.args.plan.now)) c.as_slice.ensures (c.if-not-are_places.ensures.0 refl));
    dummy = (c.if-has_sound_dummy.ensures.0 refl).drives;
    driver = (c.has_sound_driver.ensures.0 t).either;
  },
  λ h. c.has_sound_driver.ensures.1 (record { either = h.driver }),
)
