use Rattle.std.proofs.Common.{◌==◌, [], ◌∷◌, ◌++◌, ℕ, sym, ◌∙◌, ap, get_or}
use Rattle.std.proofs.lemmas.Bool.{eq-eqb, ne_eqb}
use Rattle.pw_graph.specs.declared.shape.ShapeLink.{ShapeLink}
use Rattle.data_loop.specs.Gathering.{input_from}
use Rattle.data_loop.proofs.PairLemmas.{picked_yes, picked_no}
use Rattle.data_loop.proofs.members.inputs_of.Goals as goal
use Rattle.data_loop.proofs.members.inputs_of.Goals.{then-links-l+in_ok-push, else-links-l}

pub loop-l-preserved : goal.loop-l-preserved
loop-l-preserved c = elim c.if-links-l.branch [
  | then-links-l+in_ok-push w ↦ (let links = c.as_slice-links.result.now in let l = c.loop-l.l in
      let at : ShapeLink = get_or links l _ in
      w.inputs-is ∙ w.in_ok-push.ensures.ok ∙ ap (λ ids. ids ++ input_from (l, at) ∷ []) c.loop-l.invariant
      ∙ sym (picked_yes (λ (e : ℕ × ShapeLink). e.1.to.node == c.args.node) input_from links l _ c.loop-l-test.true
      (eq-eqb _ _ w.if-links-l.true)))
  | else-links-l w ↦ w.inputs-is ∙ c.loop-l.invariant
      ∙ sym (picked_no (λ (e : ℕ × ShapeLink). e.1.to.node == c.args.node) input_from c.as_slice-links.result.now c.loop-l.l _ c.loop-l-test.true
      (ne_eqb _ _ w.if-links-l.false))
]
