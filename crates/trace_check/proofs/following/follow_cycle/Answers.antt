use Rattle.std.proofs.lemmas.List.{nil_from_length}
use Rattle.std.proofs.Common.{◌≡◌, [], ◌∷◌, ◌+◌, ap, ◌∙◌, subst, sym, take, refl}
use Rattle.pw_graph.specs.declared.event.Event.TheVariants.{Begin}
use Rattle.pw_graph.specs.History.{AreJoined}
use Rattle.std.specs.Prelude.{slice_get}
use Rattle.trace_check.specs.declared.causes.Cause.TheVariants.{NotBegun}
use Rattle.trace_check.specs.Reasons.{IsCauseIn}
use Rattle.trace_check.specs.working.Progress.{StopAfter}
use Rattle.trace_check.proofs.CauseLemmas.{cause_before, cause_since}
use Rattle.trace_check.proofs.ProgressLemmas.{stop_at_nothing, stop_at_begin, stop_inside, whole_inside}
use Rattle.trace_check.proofs.following.follow_cycle.Goals as goal

pub returns-then-not-is_begin_of-clause-progress : goal.returns-then-not-is_begin_of-clause-progress
returns-then-not-is_begin_of-clause-progress c =
    let s = c.args.shape.now in let k = c.args.cycle in
    let other : ¬ (c.in-Some.first.now ≡ Begin k) = λ e. let t = c.if-not-is_begin_of.ensures.1 e in cc in
    let row = sym c.in-Some.ensures.cases.0 in (
      λ later sounds. subst (λ es. StopAfter ((s, k) ∷ later) es 0) row
          (stop_at_begin s k c.requires.sound later sounds c.in-Some.first.now c.in-Some.rest.now other),
      subst (λ es. IsCauseIn ((s, k) ∷ []) (take 0 es) (slice_get es 0) (NotBegun k)) row
          (cause_before s k (c.in-Some.first.now ∷ c.in-Some.rest.now) (λ e. other cc)),
    )

pub returns-in-Whole-clause-progress : goal.returns-in-Whole-clause-progress
returns-in-Whole-clause-progress c =
    let row : c.args.events.now ≡ Begin c.args.cycle ∷ c.in-Some.rest.now =
    c.in-Some.ensures.cases.0 ∙ ap (λ e. e ∷ c.in-Some.rest.now) (c.if-not-is_begin_of.ensures.0 refl) in
    subst (λ es. AreJoined ((c.args.shape.now, c.args.cycle) ∷ []) (take (c.in-Whole.n + 2) es)) (sym row)
    (whole_inside c.args.shape.now c.args.cycle c.in-Some.rest.now c.in-Whole.n c.in-Whole.ensures)

pub returns-in-Part-clause-progress : goal.returns-in-Part-clause-progress
returns-in-Part-clause-progress c =
    let s = c.args.shape.now in let k = c.args.cycle in let n = c.in-Part.n in let cause = c.in-Part.cause in
    let row : c.args.events.now ≡ Begin k ∷ c.in-Some.rest.now =
    c.in-Some.ensures.cases.0 ∙ ap (λ e. e ∷ c.in-Some.rest.now) (c.if-not-is_begin_of.ensures.0 refl) in (
      λ later sounds. subst (λ es. StopAfter ((s, k) ∷ later) es (n + 1)) (sym row)
          (stop_inside s k c.requires.sound later sounds c.in-Some.rest.now n cause c.in-Part.ensures),
      subst (λ es. IsCauseIn ((s, k) ∷ []) (take (n + 1) es) (slice_get es (n + 1)) cause) (sym row)
          (cause_since s k c.in-Some.rest.now n cause c.in-Part.ensures.3),
    )

pub returns-in_default-clause-progress : goal.returns-in_default-clause-progress
returns-in_default-clause-progress c =
    let s = c.args.shape.now in let k = c.args.cycle in
    let none = sym (nil_from_length c.args.events.now c.in_default.ensures.cases) in (
      λ later sounds. subst (λ es. StopAfter ((s, k) ∷ later) es 0) none (stop_at_nothing s k c.requires.sound later sounds),
      subst (λ es. IsCauseIn ((s, k) ∷ []) (take 0 es) (slice_get es 0) (NotBegun k)) none (cause_before s k [] (λ e. cc)),
    )
