use Rattle.std.proofs.Common.{refl, subst, sym}
use Rattle.std.specs.Prelude.{All}
use Rattle.graph_checks.specs.working.FreshChecks.{NamesWell}
use Rattle.graph_checks.proofs.FreshChecksLemmas.{fresh_is_sound, names_well_each, keeps_each}
use Rattle.graph_checks.proofs.plan_fresh.has_sound_fresh.Goals as goal

pub returns-then-not-all_name_well : goal.returns-then-not-all_name_well
returns-then-not-all_name_well c = (
  λ f. cc,
  λ h. c.if-not-all_name_well.ensures.1 (subst (All (NamesWell c.args.plan.now)) (sym c.as_slice.ensures)
      (names_well_each c.args.plan.now h)),
)

pub returns : goal.returns
returns c = (
  λ t. fresh_is_sound c.args.plan.now (c.keeps_all.ensures.0 t)
      (subst (All (NamesWell c.args.plan.now)) c.as_slice.ensures (c.if-not-all_name_well.ensures.0 refl)),
  λ h. c.keeps_all.ensures.1 (keeps_each c.args.plan.now h),
)
