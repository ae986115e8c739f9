use Rattle.std.proofs.Common.{List, ◌∙◌, sym, ap, subst, length, min, ◌^◌, ◌-◌}
use Rattle.std.proofs.lemmas.List.{with_items_is}
use Rattle.ready_queues.specs.declared.end.End.{End}
use Rattle.ready_queues.specs.Ends.{received_by, AreSameSights}
use Rattle.ready_queues.specs.Sending.{HaveSent}
use Rattle.ready_queues.proofs.ways.Ways.send_sparing.Goals as goal

pub invariant_of-way : goal.invariant_of-way
invariant_of-way g c = let way = c.args.way.now in let t = c.send_all in
    let now = with_items_is way.ends t.new.ends (t.auto.ends ∙ c.as_mut_slice.ensures.len) in
    record {
      parks = way.parks;
      counted = way.counted ∙ ap (λ k. min k (2 ^ 64 - 1)) (sym (ap received_by now ∙ t.ensures.count ∙ ap received_by c.as_mut_slice.ensures.value));
      rests = way.rests;
    }

pub returns-clause-sent : goal.returns-clause-sent
returns-clause-sent g c = let way = c.args.way.now in let t = c.send_all in let owner = c.args.self.now.owner in
    let now = with_items_is way.ends t.new.ends (t.auto.ends ∙ c.as_mut_slice.ensures.len) in
    let was = c.as_mut_slice.ensures.value in
    subst (λ (l : List End × List End). HaveSent owner c.args.spared c.args.woke t.result (length owner) l.0 l.1) (λ i. (was i, sym now i)) t.ensures.sent

pub returns-clause-sights : goal.returns-clause-sights
returns-clause-sights g c = let way = c.args.way.now in let t = c.send_all in
    let now = with_items_is way.ends t.new.ends (t.auto.ends ∙ c.as_mut_slice.ensures.len) in
    let was = c.as_mut_slice.ensures.value in
    subst (λ (l : List End × List End). AreSameSights l.0 l.1) (λ i. (was i, sym now i)) t.ensures.sights
