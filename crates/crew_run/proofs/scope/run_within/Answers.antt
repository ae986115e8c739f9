use Rattle.std.proofs.Common.{◌∙◌, length, map, sym, ap, subst, arith}
use Rattle.std.specs.Prelude.{All}
use Rattle.std.proofs.lemmas.List.{length-map}
use Rattle.crew_run.specs.declared.starting.Held.{Held}
use Rattle.crew_run.specs.Starting.{IsBegun, AreEnded}
use Rattle.crew_run.specs.Dealt.{AreDealt}
use Rattle.crew_run.proofs.BegunLemmas.{held_can, begun_can, begun_few, dealt}
use Rattle.crew_run.proofs.scope.run_within.Goals as goal

pub members_of-requires-clause-room : goal.members_of-requires-clause-room
members_of-requires-clause-room g c = let l = c.start_all.new.lists in
    let few = (begun_few (λ h. h.promise.given.value) g.C.Work.number_of g.C.Work.has_run c.args.adopt.now c.args.task.members l.kept.list l.held.list l.begun.list c.start_all.ensures).0 in
    let room = c.requires.places.members in let e = ap (λ k. length k) c.into_items.ensures in omega (arith, few, room, e)

pub lead-led-requires-clause-leads : goal.lead-led-requires-clause-leads
lead-led-requires-clause-leads g c = let l = c.start_all.new.lists in
    let few = (begun_few (λ h. h.promise.given.value) g.C.Work.number_of g.C.Work.has_run c.args.adopt.now c.args.task.members l.kept.list l.held.list l.begun.list c.start_all.ensures).0 in
    let e = ap (λ k. length k) (c.into_items-2.ensures ∙ (c.members_of.ensures ∙ ap (map (λ (h : Held g.row.M.Denot). h.member)) c.into_items.ensures)) in
    let f = length-map l.held.list (λ (h : Held g.row.M.Denot). h.member) in
    (c.args.task.members, c.requires.leads, omega (arith, few, e, f))

pub lead-led-requires-clause-held : goal.lead-led-requires-clause-held
lead-led-requires-clause-held g c = let l = c.start_all.new.lists in
    subst (All (g.C.Work.can_start c.args.crew.now))
    (sym (c.into_items-2.ensures ∙ (c.members_of.ensures ∙ ap (map (λ (h : Held g.row.M.Denot). h.member)) c.into_items.ensures)))
    (held_can (λ h. h.promise.given.value) g.C.Work.number_of g.C.Work.has_run (g.C.Work.can_start c.args.crew.now) c.args.adopt.now c.args.task.members l.kept.list l.held.list l.begun.list c.start_all.ensures c.requires.members)

pub join_all-requires-clause-can : goal.join_all-requires-clause-can
join_all-requires-clause-can g c κs within = let l = c.start_all.new.lists in
    subst (All (λ b. (given : g.row.M.Denot) × g.C.Work.can_start c.args.crew.now given
    × IsBegun (λ h. h.promise.given.value) g.C.Work.number_of g.C.Work.has_run given b)) (sym c.into_items-3.ensures)
    (begun_can (λ h. h.promise.given.value) g.C.Work.number_of g.C.Work.has_run (g.C.Work.can_start c.args.crew.now) c.args.adopt.now c.args.task.members l.kept.list l.held.list l.begun.list c.start_all.ensures c.requires.members)

pub join_all-requires-clause-room : goal.join_all-requires-clause-room
join_all-requires-clause-room g c κs within = let l = c.start_all.new.lists in
    let few = (begun_few (λ h. h.promise.given.value) g.C.Work.number_of g.C.Work.has_run c.args.adopt.now c.args.task.members l.kept.list l.held.list l.begun.list c.start_all.ensures).1 in
    let room = c.requires.places.backs in let e = ap (λ k. length k) c.into_items-3.ensures in omega (arith, few, room, e)

pub collect-requires : goal.collect-requires
collect-requires g c = let l = c.start_all.new.lists in
    let deal = dealt (λ h. h.promise.given.value) g.C.Work.number_of g.C.Work.has_run c.args.adopt.now c.args.task.members l.kept.list l.held.list l.begun.list
    c.join_all.new.backs.list c.start_all.ensures
    (subst (λ k. AreEnded (λ h. h.promise.given.value) g.C.Work.number_of g.C.Work.has_run k c.join_all.new.backs.list) c.into_items-3.ensures c.join_all.ensures) in
    let is = c.into_items-2.ensures ∙ (c.members_of.ensures ∙ ap (map (λ (h : Held g.row.M.Denot). h.member)) c.into_items.ensures) in (
      c.args.task.lead,
      c.args.task.members,
      c.into_items-2.result,
      g.K.Ticker.ticks c.args.ticker.now,
      g.K.Ticker.ticks c.lead-led.new.ticker,
      c.requires.leads,
      c.lead-led.ensures,
      subst (λ k. AreDealt g.C.Work.has_run c.args.task.members k c.into_items-2.result c.into_items-5.result) (sym c.into_items-4.ensures)
          (subst (λ k. AreDealt g.C.Work.has_run c.args.task.members l.kept.list k c.into_items-5.result) (sym is)
          (subst (AreDealt g.C.Work.has_run c.args.task.members l.kept.list (map (λ (h : Held g.row.M.Denot). h.member) l.held.list)) (sym c.into_items-5.ensures) deal)),
    )

pub returns : goal.returns
returns g c = let l = c.start_all.new.lists in
    let deal = dealt (λ h. h.promise.given.value) g.C.Work.number_of g.C.Work.has_run c.args.adopt.now c.args.task.members l.kept.list l.held.list l.begun.list
    c.join_all.new.backs.list c.start_all.ensures
    (subst (λ k. AreEnded (λ h. h.promise.given.value) g.C.Work.number_of g.C.Work.has_run k c.join_all.new.backs.list) c.into_items-3.ensures c.join_all.ensures) in
    let is = c.into_items-2.ensures ∙ (c.members_of.ensures ∙ ap (map (λ (h : Held g.row.M.Denot). h.member)) c.into_items.ensures) in
    c.collect.ensures c.args.task.lead c.args.task.members c.into_items-2.result (g.K.Ticker.ticks c.args.ticker.now) (g.K.Ticker.ticks c.lead-led.new.ticker)
    c.requires.leads c.lead-led.ensures
    (subst (λ k. AreDealt g.C.Work.has_run c.args.task.members k c.into_items-2.result c.into_items-5.result) (sym c.into_items-4.ensures)
    (subst (λ k. AreDealt g.C.Work.has_run c.args.task.members l.kept.list k c.into_items-5.result) (sym is)
    (subst (AreDealt g.C.Work.has_run c.args.task.members l.kept.list (map (λ (h : Held g.row.M.Denot). h.member) l.held.list)) (sym c.into_items-5.ensures) deal)))
