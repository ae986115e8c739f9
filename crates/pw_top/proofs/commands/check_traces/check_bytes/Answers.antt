-- What is seen is what the text says, and what is found.
use Rattle.std.proofs.Common.{[], map, ap, subst, sym, ◌∙◌}
use Rattle.std.specs.Prelude.{Ok}
use Rattle.pw_top.specs.working.Seen.{IsSeenOn, finding_by}
use Rattle.pw_top.specs.Check.{check_work, FindsTrace}
use Rattle.pw_top.specs.CheckFound.{IsFoundIn}
use Rattle.pw_top.proofs.AllowedLemmas.{part_gives}
use Rattle.pw_top.proofs.FoundLemmas.{seen_finding, seen_found}
use Rattle.pw_top.proofs.commands.check_traces.check_bytes.Goals as goal

pub returns-in-Ok-check_work-clause-done : goal.returns-in-Ok-check_work-clause-done
returns-in-Ok-check_work-clause-done c =
    let names = c.args.names in
    let shapes = map (λ e. e.shape) c.args.plan.now.epochs in
    let bytes = c.args.bytes.now in
    let seen = subst (λ bs. IsSeenOn names shapes bs c.in-Ok.seen) c.as_slice.ensures c.in-Ok.ensures in
    part_gives [] (FindsTrace names shapes bytes) c.in-Ok-check_work.work (
      finding_by c.in-Ok.seen,
      seen_finding names shapes bytes c.in-Ok.seen seen,
      ap Ok (c.in-Ok-check_work.ensures ∙ ap check_work c.finding_by.ensures),
    )

pub returns-in-Ok-check_work-clause-what : goal.returns-in-Ok-check_work-clause-what
returns-in-Ok-check_work-clause-what c =
    let names = c.args.names in
    let shapes = map (λ e. e.shape) c.args.plan.now.epochs in
    let bytes = c.args.bytes.now in
    let seen = subst (λ bs. IsSeenOn names shapes bs c.in-Ok.seen) c.as_slice.ensures c.in-Ok.ensures in
    subst (IsFoundIn names shapes bytes) (sym c.what_by.ensures) (seen_found names shapes bytes c.in-Ok.seen seen)
