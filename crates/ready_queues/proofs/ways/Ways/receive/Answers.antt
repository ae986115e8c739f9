use Rattle.std.proofs.Common.{List, ◌∙◌, sym, subst}
use Rattle.std.specs.Prelude.{IfSome}
use Rattle.std.proofs.lemmas.List.{with_items_is}
use Rattle.ready_queues.specs.declared.end.End.{End}
use Rattle.ready_queues.specs.Receiving.{HasReceived}
use Rattle.ready_queues.proofs.ways.Ways.receive.Goals as goal

pub returns-clause-some : goal.returns-clause-some
returns-clause-some g c = let way = c.args.way.now in let t = c.pop-node in
    let now = with_items_is way.ends t.new.ends (t.auto.ends ∙ c.as_mut_slice.ensures.len) in
    let was = c.as_mut_slice.ensures.value in
    subst (λ (l : List End × List End). IfSome t.result (λ x. HasReceived way.number x l.0 l.1)) (λ i. (was i, sym now i)) t.ensures.some
