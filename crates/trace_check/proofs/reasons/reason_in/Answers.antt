use Rattle.std.proofs.Common.{◌≡◌, ◌+◌, ◌-◌, ◌≤◌, inl, inr, None, [], take, sym, ◌∙◌, subst, arith, append-nil, refl}
use Rattle.std.specs.Prelude.{slice_get}
use Rattle.std.proofs.lemmas.List.{take_all}
use Rattle.std.proofs.lemmas.List.Elements.{All-nil}
use Rattle.std.proofs.lemmas.Option.{slice_get-get_or}
use Rattle.pw_graph.specs.declared.event.Event.TheVariants.{Begin}
use Rattle.pw_graph.specs.SoundShape.{IsSoundShape}
use Rattle.pw_graph.specs.History.{AreJoined, cycles_of}
use Rattle.trace_check.specs.declared.causes.Cause.TheVariants.{AllEnded}
use Rattle.trace_check.specs.Reasons.{IsCause}
use Rattle.trace_check.specs.working.Progress.{StopAfter, IsProgressOf, progress_length}
use Rattle.trace_check.proofs.EpochLemmas.{history_ends}
use Rattle.trace_check.proofs.FirstIllegalLemmas.{first_illegal}
use Rattle.trace_check.proofs.reasons.reason_in.Goals as goal

pub returns-then-n-count : goal.returns-then-n-count
returns-then-n-count c = λ shapes events long progress.
    let joined = subst (IsProgressOf (cycles_of shapes) events) c.in-Whole.is progress in
    subst (AreJoined (cycles_of shapes)) (take_all c.in-Whole.n events (let is = c.if-n-count.true in omega arith)) joined

pub returns-else-n-count : goal.returns-else-n-count
returns-else-n-count c = λ shapes events long progress.
    let n = c.in-Whole.n in
    let joined = subst (IsProgressOf (cycles_of shapes) events) c.in-Whole.is progress in
    let le : n ≤ c.args.count = subst (λ f. progress_length f ≤ c.args.count) c.in-Whole.is c.requires.within in
    let other = c.if-n-count.false in
    let e : n ≡ n + 1 - 1 = omega arith in
    let some : ¬ (slice_get events n ≡ None) = λ none. let z = sym none ∙ slice_get-get_or events n (Begin 0) (omega arith) in cc in (
      first_illegal shapes events n (n + 1) refl (history_ends (cycles_of shapes) events n (omega arith) joined),
      subst (λ k. IsCause shapes (take k events) (slice_get events k) AllEnded) e (inr (joined, some, refl)),
    )

pub returns-in-Part : goal.returns-in-Part
returns-in-Part c = λ shapes events long progress.
    let n = c.in-Part.n in
    let stops = subst (IsProgressOf (cycles_of shapes) events) c.in-Part.is progress in
    let e : n ≡ n + 1 - 1 = omega arith in (
      first_illegal shapes events n (n + 1) refl
          (subst (λ cs. StopAfter cs events n) (append-nil (cycles_of shapes)) (stops.0 [] (All-nil (λ c. IsSoundShape c.0)))),
      subst (λ k. IsCause shapes (take k events) (slice_get events k) c.in-Part.cause) e (inl stops.1),
    )
