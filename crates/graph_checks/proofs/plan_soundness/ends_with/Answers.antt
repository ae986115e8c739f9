use Rattle.std.proofs.Common.{subst, sym}
use Rattle.std.specs.Prelude.{All}
use Rattle.graph_checks.specs.working.FormChecks.{IsEnded}
use Rattle.graph_checks.proofs.FormChecksLemmas.{ended_by_form}
use Rattle.graph_checks.proofs.plan_soundness.ends_with.Goals as goal

pub returns : goal.returns
returns c =
    let both = ended_by_form c.args.plan.now c.args.epoch.now in (
      λ t. both.0 (subst (All (IsEnded c.args.plan.now)) c.as_slice.ensures (c.are_ended.ensures.0 t)),
      λ h. c.are_ended.ensures.1 (subst (All (IsEnded c.args.plan.now)) (sym c.as_slice.ensures) (both.1 h)),
    )
