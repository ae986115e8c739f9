use Rattle.std.proofs.Common.{◌∙◌, [], ◌∷◌, ◌++◌, length, map, sym, ap, arith, append-nil}
use Rattle.std.proofs.lemmas.List.{append_assoc, nil_from_length, map-append}
use Rattle.crew_run.specs.declared.starting.Held.{Held}
use Rattle.crew_run.proofs.joining.members_of.Goals as goal

pub loop-one-preserved : goal.loop-one-preserved
loop-one-preserved g c = let i = c.loop-one.invariant in let steps = c.in-Some.ensures.steps.0 in
    let ys = c.loop-one.yielded in let x = c.in-Some.one in let left = c.next.new.self.rest.items in
    let longer = ap (λ l. length l) steps in record {
      all = i.all ∙ (ap (λ l. ys ++ l) steps ∙ sym (append_assoc ys (x ∷ []) left));
      list = c.push_spare.ensures.list ∙ (ap (λ l. l ++ x.member ∷ []) i.list
          ∙ sym (map-append (λ (h : Held g.row.M.Denot). h.member) ys (x ∷ [])));
      room = omega (arith, longer, i.room, c.push_spare.ensures.spare);
    }

pub returns : goal.returns
returns g c = let i = c.loop-one.invariant in let rest = c.loop-one.one-iterator.rest in
    let none = nil_from_length rest.items (sym rest.ok.0 ∙ c.in-None.ensures.steps.0) in
    i.list ∙ ap (λ l. map (λ (h : Held g.row.M.Denot). h.member) l)
    (sym (i.all ∙ (ap (λ l. c.loop-one.yielded ++ l) none ∙ append-nil c.loop-one.yielded)))
