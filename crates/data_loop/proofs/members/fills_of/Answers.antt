use Rattle.std.proofs.Common.{◌==◌, [], ◌∷◌, ◌++◌, sym, ◌∙◌, ap}
use Rattle.std.proofs.lemmas.Bool.{eq-eqb, ne_eqb}
use Rattle.pw_graph.specs.declared.pools.PoolShape.{PoolShape}
use Rattle.pw_graph.proofs.PoolLemmas.{places_yes, places_no}
use Rattle.data_loop.proofs.members.fills_of.Goals as goal
use Rattle.data_loop.proofs.members.fills_of.Goals.{then-pools-q+in_ok-push, else-pools-q}

pub loop-q-preserved : goal.loop-q-preserved
loop-q-preserved c = elim c.if-pools-q.branch [
  | then-pools-q+in_ok-push w ↦ w.fills-is ∙ w.in_ok-push.ensures.ok ∙ ap (λ ids. ids ++ c.loop-q.q ∷ []) c.loop-q.invariant
      ∙ sym (places_yes (λ (e : PoolShape). e.port.node == c.args.node) c.args.pools.now c.loop-q.q _ c.loop-q-test.true
      (eq-eqb _ _ w.if-pools-q.true))
  | else-pools-q w ↦ w.fills-is ∙ c.loop-q.invariant
      ∙ sym (places_no (λ (e : PoolShape). e.port.node == c.args.node) c.args.pools.now c.loop-q.q _ c.loop-q-test.true
      (ne_eqb _ _ w.if-pools-q.false))
]
