use Rattle.std.proofs.Common.{◌≡◌, ◌∙◌, ◌+◌, ◌<◌, ◌^◌, ℕ, Option, List, ◌++◌, ◌∷◌, [], map, take, sym, ap, subst}
use Rattle.std.specs.Prelude.{SomeIff}
use Rattle.std.specs.List.{AllZip}
use Rattle.cycle_model.specs.WavesFit.{WavesFit}
use Rattle.std.proofs.lemmas.List.{take_more}
use Rattle.pw_graph.specs.declared.parts.Part.{Part}
use Rattle.driver_groups.specs.declared.crew.PlacedRun.{PlacedRun}
use Rattle.driver_groups.specs.working.Groups.{IsRunOfPart}
use Rattle.driver_groups.proofs.GroupLemmas.{zip_push, place_more}
use Rattle.driver_groups.proofs.preparing.prepare_all.Goals as goal

pub prepare_one-requires-clause-fit : goal.prepare_one-requires-clause-fit
prepare_one-requires-clause-fit c = subst (λ (p : Part). WavesFit p.plan c.args.waves.now) (sym c.part-item.is)
    (c.requires.fit c.loop-part.part-index c.part-item.result c.loop-part-test.true)

pub loop-part-preserved : goal.loop-part-preserved
loop-part-preserved c = let waves = c.args.waves.now in let parts = c.args.parts.now in let k = c.loop-part.part-index in
    let p : Part = c.part-item.result in let r : PlacedRun = c.in_ok-prepare_one.field-0 in
    let i = c.loop-part.invariant in let n : ℕ = c.loop-part.place in
    let more : c.in_ok-place.place ≡ k + 1 = (subst (λ (o : Option ℕ). SomeIff o (n + 1 < 2 ^ 32) (n + 1)) c.in_ok-place.ensures.ok_part c.checked_add.ensures).1
    ∙ ap (λ m. m + 1) i.place in record {
      each = subst (λ (x : List Part × List PlacedRun). AllZip (λ (q : Part) (y : PlacedRun). IsRunOfPart waves q y.run) x.0 x.1)
          (λ j. (sym (take_more parts k p c.loop-part-test.true ∙ ap (λ (q : Part). take k parts ++ q ∷ []) (sym c.part-item.is)) j, sym c.in_ok-push.ensures.ok j))
          (zip_push (λ (q : Part) (x : PlacedRun). IsRunOfPart waves q x.run) (take k parts) c.loop-part.runs p r i.each c.in_ok-prepare_one.ensures.run);
      place = more;
      places = ap (λ (l : List PlacedRun). map (λ (x : PlacedRun). x.place) l) c.in_ok-push.ensures.ok
          ∙ place_more c.loop-part.runs r k i.places (c.in_ok-prepare_one.ensures.place ∙ more);
    }
