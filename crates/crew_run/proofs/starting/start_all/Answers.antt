use Rattle.std.proofs.Common.{◌∙◌, ℕ, false, get_or, List, [], ◌∷◌, ◌++◌, length, sym, ap, subst, arith, length-append, append-nil}
use Rattle.std.specs.Prelude.{All}
use Rattle.std.proofs.lemmas.List.{append_assoc, nil_from_length}
use Rattle.std.proofs.lemmas.List.Elements.{All-tail}
use Rattle.crew_run.specs.Starting.{IsStart, AreBegun, HaveRooms}
use Rattle.crew_run.proofs.BegunLemmas.{begun_push, placed_room}
use Rattle.crew_run.proofs.starting.start_all.Goals as goal

pub place-requires : goal.place-requires
place-requires g c = let M = g.row.M.Denot in let rooms = c.loop-given.invariant.rooms in
    let longer = ap (λ (l : List M). length l) c.in-Some.ensures.steps.0 in
    let a = rooms.held in let b = rooms.begun in let d = rooms.kept in
    record { held = omega (arith, longer, a); begun = omega (arith, longer, b); kept = omega (arith, longer, d) }

pub loop-given-preserved : goal.loop-given-preserved
loop-given-preserved g c = let i = c.loop-given.invariant in let steps = c.in-Some.ensures.steps.0 in
    let M = g.row.M.Denot in let ys = c.loop-given.yielded in let x : M = c.in-Some.given in let left = c.next.new.self.rest.items in
    let can = g.C.Work.can_start c.args.crew.now in let adopt = c.args.adopt.now in
    let longer = ap (λ (l : List M). length l) steps in let grown = length-append ys (x ∷ []) in
    let whole = length-append ys (x ∷ left) in let n = i.at in
    let all = ap (λ (l : List M). length l) (i.rest ∙ ap (λ (l : List M). ys ++ l) steps) in
    let long = c.requires.adopt in record {
      at = omega (arith, n, grown);
      rest = i.rest ∙ (ap (λ (l : List M). ys ++ l) steps ∙ sym (append_assoc ys (x ∷ []) left));
      can = All-tail can x left (subst (All can) steps i.can);
      begun = begun_push (λ h. h.promise.given.value) g.C.Work.number_of g.C.Work.has_run adopt ys x c.start_unless-start.result
          c.loop-given.lists c.place.new.self i.begun (omega (arith, all, whole, long))
          (subst (λ (k : ℕ). IsStart (λ h. h.promise.given.value) g.C.Work.number_of g.C.Work.has_run (get_or adopt k false) x c.start_unless-start.result) n c.start_unless-start.ensures)
          c.place.ensures;
      rooms = placed_room (λ h. h.promise.given.value) g.C.Work.number_of g.C.Work.has_run c.start_unless-start.result
          c.loop-given.lists c.place.new.self (length left) c.place.ensures
          (subst (λ (k : ℕ). HaveRooms k c.loop-given.lists) longer i.rooms);
    }

pub returns : goal.returns
returns g c = let i = c.loop-given.invariant in let rest = c.loop-given.given-iterator.rest in let M = g.row.M.Denot in
    let l = c.loop-given.lists in
    let none = nil_from_length rest.items (sym rest.ok.0 ∙ c.in-None.ensures.steps.0) in
    subst (λ (ms : List M). AreBegun (λ h. h.promise.given.value) g.C.Work.number_of g.C.Work.has_run c.args.adopt.now ms
    l.kept.list l.held.list l.begun.list)
    (sym (i.rest ∙ (ap (λ (ms : List M). c.loop-given.yielded ++ ms) none ∙ append-nil c.loop-given.yielded))) i.begun
