use Rattle.std.proofs.Common.{ap, sym, ◌∙◌, arith, ◌≡◌, ℕ, map, List, [], ◌∷◌, ◌++◌}
use Rattle.std.proofs.lemmas.List.{map-append}
use Rattle.pw_graph.specs.declared.shape.ShapeNode.{ShapeNode}
use Rattle.graph_lines.specs.Searching.{numbers_in}
use Rattle.graph_lines.proofs.CountingLemmas.{numbers_yes, numbers_no}
use Rattle.graph_lines.proofs.shaping.counting.bare_nodes.Goals as goal
use Rattle.graph_lines.proofs.shaping.counting.bare_nodes.Goals.{then-is_in+in_ok-push, else-is_in}

pub loop-node-preserved : goal.loop-node-preserved
loop-node-preserved c = elim c.if-is_in.branch [
  | then-is_in+in_ok-push w ↦ ap (map (λ (n : ShapeNode). n.node)) (w.nodes-is ∙ w.in_ok-push.ensures.ok)
      ∙ (map-append (λ (n : ShapeNode). n.node) c.loop-node.nodes _ ∙ (ap (λ (ns : List ℕ). ns ++ c.loop-node.node ∷ []) c.loop-node.invariant
      ∙ sym (numbers_yes c.args.here.now c.loop-node.node (sym c.is_in.ensures ∙ w.if-is_in.true))))
  | else-is_in w ↦ ap (map (λ (n : ShapeNode). n.node)) w.nodes-is ∙ (c.loop-node.invariant
      ∙ sym (numbers_no c.args.here.now c.loop-node.node (sym c.is_in.ensures ∙ w.if-is_in.false)))
]

pub returns : goal.returns
returns c = let all : c.loop-node.node ≡ 64 = omega arith in c.loop-node.invariant ∙ ap (numbers_in c.args.here.now) all
