use Rattle.std.proofs.Common.{ap, sym, ◌∙◌, arith, ◌≡◌, ℕ, List, [], ◌∷◌, ◌++◌}
use Rattle.graph_lines.specs.Searching.{numbers_in}
use Rattle.graph_lines.proofs.CountingLemmas.{numbers_yes, numbers_no}
use Rattle.graph_plan.proofs.partition.numbers_in.Goals as goal
use Rattle.graph_plan.proofs.partition.numbers_in.Goals.{then-is_in+in_ok-push, else-is_in}

pub loop-node-preserved : goal.loop-node-preserved
loop-node-preserved c = elim c.if-is_in.branch [
  | then-is_in+in_ok-push w ↦ w.nodes-is ∙ (w.in_ok-push.ensures.ok ∙ (ap (λ (ns : List ℕ). ns ++ c.loop-node.node ∷ []) c.loop-node.invariant
      ∙ sym (numbers_yes c.args.here.now c.loop-node.node (sym c.is_in.ensures ∙ w.if-is_in.true))))
  | else-is_in w ↦ w.nodes-is ∙ (c.loop-node.invariant
      ∙ sym (numbers_no c.args.here.now c.loop-node.node (sym c.is_in.ensures ∙ w.if-is_in.false)))
]

pub returns : goal.returns
returns c = let all : c.loop-node.node ≡ c.args.count = omega arith in c.loop-node.invariant ∙ ap (numbers_in c.args.here.now) all
