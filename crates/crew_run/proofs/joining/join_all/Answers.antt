use Rattle.std.proofs.Common.{◌∙◌, ◌≤◌, [], ◌∷◌, ◌++◌, length, sym, ap, subst, arith, append-nil}
use Rattle.std.specs.Prelude.{All}
use Rattle.std.proofs.lemmas.List.{append_assoc, nil_from_length}
use Rattle.std.proofs.lemmas.List.Elements.{All-head, All-tail}
use Rattle.crew_run.specs.Starting.{IsBegun, AreEnded}
use Rattle.crew_run.proofs.BegunLemmas.{ended_push}
use Rattle.crew_run.proofs.joining.join_all.Goals as goal

pub join_one-requires-after_bounds : goal.join_one-requires-after_bounds
join_one-requires-after_bounds g c κs within = All-head
    (λ b. (given : g.row.M.Denot) × g.C.Work.can_start c.args.crew.now given
    × IsBegun (λ h. h.promise.given.value) g.C.Work.number_of g.C.Work.has_run given b)
    c.in-Some.one c.next.new.self.rest.items
    (subst (All (λ b. (given : g.row.M.Denot) × g.C.Work.can_start c.args.crew.now given
    × IsBegun (λ h. h.promise.given.value) g.C.Work.number_of g.C.Work.has_run given b)) c.in-Some.ensures.steps.0 c.loop-one.invariant.can)

pub loop-one-preserved : goal.loop-one-preserved
loop-one-preserved g c = let i = c.loop-one.invariant in let steps = c.in-Some.ensures.steps.0 in
    let ys = c.loop-one.yielded in let x = c.in-Some.one in let left = c.next.new.self.rest.items in
    let longer = ap (λ l. length l) steps in record {
      all = i.all ∙ (ap (λ l. ys ++ l) steps ∙ sym (append_assoc ys (x ∷ []) left));
      can = All-tail (λ b. (given : g.row.M.Denot) × g.C.Work.can_start c.args.crew.now given
          × IsBegun (λ h. h.promise.given.value) g.C.Work.number_of g.C.Work.has_run given b) x left
          (subst (All (λ b. (given : g.row.M.Denot) × g.C.Work.can_start c.args.crew.now given
          × IsBegun (λ h. h.promise.given.value) g.C.Work.number_of g.C.Work.has_run given b)) steps i.can);
      ended = subst (AreEnded (λ h. h.promise.given.value) g.C.Work.number_of g.C.Work.has_run (ys ++ x ∷ [])) (sym c.push_spare.ensures.list)
          (ended_push (λ h. h.promise.given.value) g.C.Work.number_of g.C.Work.has_run ys c.loop-one.backs.list x c.join_one.result i.ended c.join_one.ensures);
      room = omega (arith, longer, i.room, c.push_spare.ensures.spare);
    }

pub returns : goal.returns
returns g c = let i = c.loop-one.invariant in let rest = c.loop-one.one-iterator.rest in
    let none = nil_from_length rest.items (sym rest.ok.0 ∙ c.in-None.ensures.steps.0) in
    subst (λ l. AreEnded (λ h. h.promise.given.value) g.C.Work.number_of g.C.Work.has_run l c.loop-one.backs.list)
    (sym (i.all ∙ (ap (λ l. c.loop-one.yielded ++ l) none ∙ append-nil c.loop-one.yielded))) i.ended

pub loop-one-init : goal.loop-one-init
loop-one-init g c = let items = c.into_iter-one-iterator.ensures.into_iter_gives.0 ∙ c.into_vec-one-items.ensures in record {
  all = sym items;
  can = subst (All (λ b. (given : g.row.M.Denot) × g.C.Work.can_start c.args.crew.now given
      × IsBegun (λ h. h.promise.given.value) g.C.Work.number_of g.C.Work.has_run given b)) (sym items) c.requires.can;
  ended = c.requires.empty;
  room = subst (λ l. length l ≤ c.args.backs.now.spare) (sym items) c.requires.room;
}
