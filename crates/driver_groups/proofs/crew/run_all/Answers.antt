use Rattle.std.proofs.Common.{◌∙◌, List, [], ◌∷◌, ◌++◌, length, sym, ap, subst, arith, append-nil}
use Rattle.std.specs.Prelude.{All}
use Rattle.std.specs.List.{AllZip}
use Rattle.std.proofs.lemmas.List.{append_assoc, nil_from_length}
use Rattle.std.proofs.lemmas.List.Elements.{All-head, All-tail}
use Rattle.graph_run.specs.declared.ended.EndedRun.{EndedRun}
use Rattle.graph_run.specs.RunStates.{CanRunAlone, HasRunAlone}
use Rattle.driver_groups.specs.declared.crew.PlacedRun.{PlacedRun}
use Rattle.driver_groups.proofs.GroupLemmas.{zip_push}
use Rattle.driver_groups.proofs.crew.run_all.Goals as goal

pub run_alone-requires : goal.run_alone-requires
run_alone-requires g c = All-head (λ (p : PlacedRun). CanRunAlone p.run) c.in-Some.one c.next.new.self.rest.items
    (subst (All (λ (p : PlacedRun). CanRunAlone p.run)) c.in-Some.ensures.steps.0 c.loop-one.invariant.can)

pub loop-one-preserved : goal.loop-one-preserved
loop-one-preserved g c = let i = c.loop-one.invariant in let steps = c.in-Some.ensures.steps.0 in
    let R = λ (p : PlacedRun) (e : EndedRun). HasRunAlone p.run e in
    let ys = c.loop-one.yielded in let x : PlacedRun = c.in-Some.one in let left = c.next.new.self.rest.items in
    let longer = ap (λ (l : List PlacedRun). length l) steps in record {
      rest = i.rest ∙ (ap (λ (l : List PlacedRun). ys ++ l) steps ∙ sym (append_assoc ys (x ∷ []) left));
      can = All-tail (λ (p : PlacedRun). CanRunAlone p.run) x left (subst (All (λ (p : PlacedRun). CanRunAlone p.run)) steps i.can);
      ended = subst (AllZip R (ys ++ x ∷ [])) (sym c.push_spare.ensures.list)
          (zip_push R ys c.loop-one.ended.list x c.run_alone.result i.ended c.run_alone.ensures);
      room = omega (arith, longer, i.room, c.push_spare.ensures.spare);
    }

pub returns : goal.returns
returns g c = let i = c.loop-one.invariant in let rest = c.loop-one.one-iterator.rest in
    let none = nil_from_length rest.items (sym rest.ok.0 ∙ c.in-None.ensures.steps.0) in
    subst (λ (l : List PlacedRun). AllZip (λ (p : PlacedRun) (e : EndedRun). HasRunAlone p.run e) l c.loop-one.ended.list)
    (sym (i.rest ∙ (ap (λ (l : List PlacedRun). c.loop-one.yielded ++ l) none ∙ append-nil c.loop-one.yielded))) i.ended
