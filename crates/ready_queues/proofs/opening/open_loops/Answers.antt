use Rattle.std.proofs.Common.{◌≡◌, ◌+◌, ◌∙◌, ℕ, List, ◌∷◌, ◌++◌, [], length, sym, ap, subst, length-append}
use Rattle.std.specs.Prelude.{All}
use Rattle.std.proofs.lemmas.List.Elements.{All-push}
use Rattle.crossbeam_queue.specs.Passes.{ruled_capacity}
use Rattle.ready_queues.specs.declared.end.End.{End}
use Rattle.ready_queues.specs.declared.lane.Lane.{Lane}
use Rattle.ready_queues.specs.declared.way.Way.{Way}
use Rattle.ready_queues.specs.Lanes.{unparks}
use Rattle.ready_queues.specs.Ends.{received_by}
use Rattle.ready_queues.specs.Opening.{IsFreshEnd, AreFresh, IsBareWay, AreBare}
use Rattle.ready_queues.proofs.OpeningLemmas.{both_snoc, received_more}
use Rattle.ready_queues.proofs.opening.open_loops.Goals as goal

pub loop-number-preserved : goal.loop-number-preserved
loop-number-preserved c = let l = c.loop-number in let i = l.invariant in let o = c.in_ok-lane in let owner = c.args.owner.now in let driver = unparks c.args.driver.now in
    let lane : Lane = o.field-0.lane in let end : End = o.field-0.end in let way : Way = o.field-0.way in
    let lanes : c.push.new.self ≡ l.lanes ++ lane ∷ [] = c.in_ok-push.ensures.ok in
    let ends : c.push-in-loop-number.new.self ≡ l.ends ++ end ∷ [] = c.in_ok-push-2.ensures.ok in
    let ways : c.push-in-loop-number-2.new.self ≡ l.ways ++ way ∷ [] = c.in_ok-push-3.ensures.ok in
    let n = i.lanes in let m = i.ends in let k = i.ways in record {
      lanes = ap (λ (x : List Lane). length x) lanes ∙ length-append l.lanes (lane ∷ []) ∙ ap (λ (x : ℕ). x + 1) n;
      ends = ap (λ (x : List End). length x) ends ∙ length-append l.ends (end ∷ []) ∙ ap (λ (x : ℕ). x + 1) m;
      ways = ap (λ (x : List Way). length x) ways ∙ length-append l.ways (way ∷ []) ∙ ap (λ (x : ℕ). x + 1) k;
      rooms = subst (All (λ (x : Lane). ruled_capacity x.queue ≡ 64)) (sym lanes) (All-push (λ (x : Lane). ruled_capacity x.queue ≡ 64) l.lanes lane i.rooms o.ensures.room);
      fresh = subst (λ (x : List Lane × List End). AreFresh owner x.0 x.1) (λ j. (sym lanes j, sym ends j)) (both_snoc (IsFreshEnd owner) l.lanes l.ends lane end (n ∙ sym m) i.fresh
          (subst (λ (x : ℕ). IsFreshEnd owner x lane end) (sym n) o.ensures.end));
      none = ap received_by ends ∙ received_more owner l.lanes l.ends l.number lane end i.none o.ensures.end;
      bare = subst (λ (x : List Lane × List Way). AreBare x.0 driver x.1) (λ j. (sym lanes j, sym ways j)) (both_snoc (λ x (y : Lane) (z : Way). IsBareWay y driver x z) l.lanes l.ways lane way (n ∙ sym k) i.bare
          (subst (λ (x : ℕ). IsBareWay lane driver x way) (sym n) o.ensures.way));
    }
