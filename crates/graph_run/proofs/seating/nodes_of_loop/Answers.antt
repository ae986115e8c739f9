use Rattle.std.proofs.Common.{◌==◌, [], ◌∷◌, ◌++◌, List, ℕ, sym, ◌∙◌, ap}
use Rattle.std.proofs.lemmas.Bool.{eq-eqb, ne_eqb}
use Rattle.graph_run.specs.Seating.{holder_of}
use Rattle.graph_run.proofs.AssignmentLemmas.{filter_yes, filter_no}
use Rattle.graph_run.proofs.seating.nodes_of_loop.Goals as goal
use Rattle.graph_run.proofs.seating.nodes_of_loop.Goals.{then-holder-which+in_ok-push, else-holder-which}

pub loop-node-preserved : goal.loop-node-preserved
loop-node-preserved c = elim c.if-holder-which.branch [
  | then-holder-which+in_ok-push w ↦ w.nodes-is ∙ (w.in_ok-push.ensures.ok ∙ (ap (λ (ns : List ℕ). ns ++ c.loop-node.node ∷ []) c.loop-node.invariant
      ∙ sym (filter_yes (λ n. holder_of c.args.seating.now n == c.args.which) c.loop-node.node
      (eq-eqb _ _ (sym c.holder.ensures ∙ w.if-holder-which.true)))))
  | else-holder-which w ↦ w.nodes-is ∙ (c.loop-node.invariant
      ∙ sym (filter_no (λ n. holder_of c.args.seating.now n == c.args.which) c.loop-node.node
      (ap (λ k. k == c.args.which) (sym c.holder.ensures) ∙ ne_eqb _ _ w.if-holder-which.false)))
]
