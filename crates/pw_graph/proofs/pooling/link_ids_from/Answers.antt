use Rattle.std.proofs.Common.{sym, ◌∙◌, ap, []}
use Rattle.std.proofs.Common.{◌∷◌, ◌++◌}
use Rattle.pw_graph.specs.Pools.{is_same_port}
use Rattle.pw_graph.proofs.PoolLemmas.{places_yes, places_no}
use Rattle.pw_graph.proofs.pooling.link_ids_from.Goals as goal
use Rattle.pw_graph.proofs.pooling.link_ids_from.Goals.{then-is_same_port+in_ok-push, else-is_same_port}

pub loop-i-preserved : goal.loop-i-preserved
loop-i-preserved c = elim c.if-is_same_port.branch [
  | then-is_same_port+in_ok-push w ↦ w.ids-is ∙ w.in_ok-push.ensures.ok ∙ ap (λ ids. ids ++ c.loop-i.i ∷ []) c.loop-i.invariant
      ∙ sym (places_yes (λ l. is_same_port l.from c.args.port) c.args.links.now c.loop-i.i _ c.loop-i-test.true
      (sym c.is_same_port.ensures ∙ w.if-is_same_port.true))
  | else-is_same_port w ↦ w.ids-is ∙ c.loop-i.invariant
      ∙ sym (places_no (λ l. is_same_port l.from c.args.port) c.args.links.now c.loop-i.i _ c.loop-i-test.true
      (sym c.is_same_port.ensures ∙ w.if-is_same_port.false))
]
