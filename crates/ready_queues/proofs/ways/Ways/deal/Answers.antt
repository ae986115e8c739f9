use Rattle.std.proofs.Common.{◌≡◌, ◌∙◌, List, ◌∷◌, ◌++◌, [], length, sym, ap, subst, arith, length-append}
use Rattle.std.specs.Prelude.{Some, slice_get}
use Rattle.std.proofs.lemmas.Option.{slice_get-get_or}
use Rattle.ready_queues.specs.declared.end.End.{End}
use Rattle.ready_queues.specs.Ends.{received_by}
use Rattle.ready_queues.specs.Opening.{IsFreshEnd, AreFresh}
use Rattle.ready_queues.proofs.OpeningLemmas.{dealt_at, fresh_set, received_more, one_snoc}
use Rattle.ready_queues.proofs.ways.Ways.deal.Goals as goal

pub returns-in_err-push-clause-kept : goal.returns-in_err-push-clause-kept
returns-in_err-push-clause-kept c = let l = c.loop-at in let low = c.loop-at-test.true in let n = c.len-at-end.ensures in let ways = c.args.self.now in
    let lane = c.index-as_slice-at in
    fresh_set ways.owner ways.lanes l.ends l.at c.index-ends-at.result c.deal.new.self (omega arith) l.invariant.kept
    (dealt_at ways.owner ways.lanes c.as_slice.result.now l.ends l.at lane.result c.index-ends-at.result c.deal.new.self c.as_slice.ensures lane.is (omega arith) l.invariant.kept c.deal.ensures.kept)
    lane.result

pub loop-at-preserved : goal.loop-at-preserved
loop-at-preserved c = let l = c.loop-at in let i = l.invariant in let low = c.loop-at-test.true in let n = c.len-at-end.ensures in let ways = c.args.self.now in
    let lane = c.index-as_slice-at in let e : End = c.deal.result in let count = i.count in
    let pushed : c.push.new.self ≡ l.more ++ e ∷ [] = c.in_ok-push.ensures.ok in
    let is = dealt_at ways.owner ways.lanes c.as_slice.result.now l.ends l.at lane.result c.index-ends-at.result e c.as_slice.ensures lane.is (omega arith) i.kept c.deal.ensures.dealt in
    let grown = ap (λ (x : List End). length x) pushed in let longer = length-append l.more (e ∷ []) in record {
      kept = fresh_set ways.owner ways.lanes l.ends l.at c.index-ends-at.result c.deal.new.self (omega arith) i.kept
          (dealt_at ways.owner ways.lanes c.as_slice.result.now l.ends l.at lane.result c.index-ends-at.result c.deal.new.self c.as_slice.ensures lane.is (omega arith) i.kept c.deal.ensures.kept)
          lane.result;
      count = omega arith;
      dealt = subst (AreFresh ways.owner ways.lanes) (sym pushed) (one_snoc (IsFreshEnd ways.owner) ways.lanes l.more e i.dealt
          (λ x at. subst (λ k. IsFreshEnd ways.owner k x e) (sym count) (is x (subst (λ k. slice_get ways.lanes k ≡ Some x) count at))));
      none = ap received_by pushed ∙ received_more ways.owner ways.lanes l.more l.at _ e i.none (is _ (slice_get-get_or ways.lanes l.at lane.result (omega arith)));
    }
