use Rattle.std.proofs.Common.{◌≡◌, Some, refl, sym, ap, ◌∙◌, subst}
use Rattle.pw_graph.specs.declared.event.Event.TheVariants.{Start, Finish, Tick, End}
use Rattle.trace_check.specs.Causes.{IsEventOf, IsCauseInside}
use Rattle.trace_check.proofs.causes.event_cause.Goals as goal

pub returns-in-Start : goal.returns-in-Start
returns-in-Start c = λ shape since k is.
    let j = c.args.in_cycle in let n = c.in-Start.node in
    let same : c.in-Start.cycle ≡ j = subst (IsEventOf j) c.in-Start.is (c.if-not-is_event_of.ensures.0 refl) in
    let row : c.args.event.now ≡ Start j n = c.in-Start.is ∙ ap (λ i. Start i n) same in
    subst (λ e. IsCauseInside shape j since (Some e) c.start_cause.result) (sym row) (c.start_cause.ensures shape j since k)

pub returns-in-Finish : goal.returns-in-Finish
returns-in-Finish c = λ shape since k is.
    let j = c.args.in_cycle in let n = c.in-Finish.node in
    let same : c.in-Finish.cycle ≡ j = subst (IsEventOf j) c.in-Finish.is (c.if-not-is_event_of.ensures.0 refl) in
    let row : c.args.event.now ≡ Finish j n = c.in-Finish.is ∙ ap (λ i. Finish i n) same in
    subst (λ e. IsCauseInside shape j since (Some e) c.finish_cause.result) (sym row) (c.finish_cause.ensures shape j since c.args.order.now k)

pub returns-in-Tick : goal.returns-in-Tick
returns-in-Tick c = λ shape since k is.
    let j = c.args.in_cycle in let late = c.in-Tick.late in
    let same : c.in-Tick.cycle ≡ j = subst (IsEventOf j) c.in-Tick.is (c.if-not-is_event_of.ensures.0 refl) in
    let row : c.args.event.now ≡ Tick j late = c.in-Tick.is ∙ ap (λ i. Tick i late) same in
    subst (λ e. IsCauseInside shape j since (Some e) c.tick_cause.result) (sym row) (c.tick_cause.ensures shape j since k is)

pub returns-in-End : goal.returns-in-End
returns-in-End c = λ shape since k is.
    let j = c.args.in_cycle in
    let same : c.in-End.cycle ≡ j = subst (IsEventOf j) c.in-End.is (c.if-not-is_event_of.ensures.0 refl) in
    c.left_cause.ensures shape since (Some c.args.event.now) k (c.in-End.is ∙ ap End same)
