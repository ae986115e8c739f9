use Rattle.std.proofs.Common.{◌≡◌, ◌+◌, Option, List, [], ◌∷◌, ◌++◌, length, get_or, take, sym, subst, arith, refl, ◌∙◌}
use Rattle.std.proofs.lemmas.List.{get_or_default, take_more, take_all}
use Rattle.std.proofs.lemmas.Option.{slice_get-get_or, slice_get_past}
use Rattle.pw_graph.specs.declared.event.Event.{Event}
use Rattle.pw_graph.specs.declared.event.Event.TheVariants.{Begin}
use Rattle.trace_check.specs.Causes.{IsCauseInside}
use Rattle.trace_check.specs.working.NextEvent.{MayFollow, AreAllowed}
use Rattle.trace_check.specs.working.Admitting.{StandsFor}
use Rattle.trace_check.proofs.NextEventLemmas.{allowed_more}
use Rattle.trace_check.proofs.AdmittingLemmas.{small_node, admitted_follows, following_is_admitted, stands_more, within_finished, finished_within}
use Rattle.trace_check.proofs.KeptLemmas.{kept}
use Rattle.trace_check.proofs.following.follow_inside.Goals as goal
use Rattle.trace_check.proofs.following.follow_inside.Goals.{else-is_end_of-via-then-is_end_of+else-is_within, else-is_end_of-via-else-is_end_of}

pub event_cause-requires-clause-driver : goal.event_cause-requires-clause-driver
event_cause-requires-clause-driver c = small_node c.args.shape.now c.requires.sound c.args.shape.now.driver c.requires.sound.nodes.driver

pub may_follow-requires-clause-driver : goal.may_follow-requires-clause-driver
may_follow-requires-clause-driver c = small_node c.args.shape.now c.requires.sound c.args.shape.now.driver c.requires.sound.nodes.driver

pub returns-then-is_within : goal.returns-then-is_within
returns-then-is_within c =
    let s = c.args.shape.now in let k = c.args.cycle in let front = take c.loop-i.i c.args.events.now in (
      c.loop-i-test.true,
      c.loop-i.invariant.allowed,
      within_finished s k c.requires.sound c.args.order.now c.requires.order front c.loop-i.invariant.allowed c.loop-i.so_far c.loop-i.invariant.stands
          (c.if-is_within.ensures.0 refl),
      λ d. get_or_default c.args.events.now c.loop-i.i d (Begin 0) c.loop-i-test.true ∙ c.if-is_end_of.ensures.0 refl,
    )

pub returns-else-is_end_of : goal.returns-else-is_end_of
returns-else-is_end_of c =
    let s = c.args.shape.now in let k = c.args.cycle in let front = take c.loop-i.i c.args.events.now in let e = get_or c.args.events.now c.loop-i.i (Begin 0) in
    let same : (d : Event) → get_or c.args.events.now c.loop-i.i d ≡ e = λ d. get_or_default c.args.events.now c.loop-i.i d (Begin 0) c.loop-i-test.true in (
      omega arith,
      c.loop-i.invariant.allowed,
      λ lt d. (
        λ may. let t = c.if-may_follow.ensures.1 (following_is_admitted s k c.requires.sound c.args.order.now c.requires.order front
            c.loop-i.invariant.allowed c.loop-i.so_far c.loop-i.invariant.stands e (subst (MayFollow s k front) (same d) may)) in cc,
        λ end done. elim c.else-is_end_of.branch [
          | else-is_end_of-via-then-is_end_of+else-is_within w ↦ (let t = w.if-is_within.ensures.1 (finished_within s k c.requires.sound c.args.order.now c.requires.order front
              c.loop-i.invariant.allowed c.loop-i.so_far c.loop-i.invariant.stands done) in cc)
          | else-is_end_of-via-else-is_end_of w ↦ (let t = w.if-is_end_of.ensures.1 (sym (same d) ∙ end) in cc)
        ],
      ),
      subst (λ o. IsCauseInside s k front o c.event_cause.result) (sym (slice_get-get_or c.args.events.now c.loop-i.i (Begin 0) c.loop-i-test.true))
          (c.event_cause.ensures s front (kept s k front c.args.order.now c.loop-i.so_far c.requires.sound c.requires.order c.loop-i.invariant.allowed c.loop-i.invariant.stands) refl),
    )

pub returns : goal.returns
returns c =
    let s = c.args.shape.now in let k = c.args.cycle in let es = c.args.events.now in let n = length es in let front = take c.loop-i.i es in
    let all : front ≡ take n es = take_all c.loop-i.i es c.loop-i-test.false ∙ sym (take_all n es (omega arith)) in (
      omega arith,
      subst (AreAllowed s k) all c.loop-i.invariant.allowed,
      λ lt d. absurd (omega arith),
      subst (λ (p : List Event × Option Event). IsCauseInside s k p.0 p.1 c.missing_cause.result) (λ i. (all i, sym (slice_get_past es n (omega arith)) i))
          (c.missing_cause.ensures s front (kept s k front c.args.order.now c.loop-i.so_far c.requires.sound c.requires.order c.loop-i.invariant.allowed c.loop-i.invariant.stands)),
    )

pub loop-i-preserved : goal.loop-i-preserved
loop-i-preserved c =
    let s = c.args.shape.now in let k = c.args.cycle in let front = take c.loop-i.i c.args.events.now in let e = get_or c.args.events.now c.loop-i.i (Begin 0) in
    let may : MayFollow s k front e = admitted_follows s k c.requires.sound c.args.order.now c.requires.order front c.loop-i.invariant.allowed c.loop-i.so_far c.loop-i.invariant.stands e
    (c.if-may_follow.ensures.0 refl) in
    let next : take (c.loop-i.i + 1) c.args.events.now ≡ front ++ e ∷ [] = take_more c.args.events.now c.loop-i.i (Begin 0) c.loop-i-test.true in
    record {
      allowed = subst (AreAllowed s k) (sym next) (allowed_more s k front e c.loop-i.invariant.allowed may);
      stands = subst (λ es. StandsFor k es c.after_event-so_far.result) (sym next)
          (stands_more s k c.requires.sound c.args.order.now c.requires.order front c.loop-i.invariant.allowed c.loop-i.so_far c.loop-i.invariant.stands e
          c.after_event-so_far.result may c.after_event-so_far.ensures);
    }
