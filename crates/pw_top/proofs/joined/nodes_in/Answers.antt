-- One node more, or none.
use Rattle.std.proofs.Common.{◌∙◌, ◌++◌, ◌∷◌, [], List, sym, ap}
use Rattle.std.specs.Prelude.{Some}
use Rattle.pw_graph.specs.declared.plan.PlanNode.{PlanNode}
use Rattle.pw_top.specs.Joined.{node_in}
use Rattle.pw_top.proofs.JoinedLemmas.{one_given, none_given}
use Rattle.pw_top.proofs.joined.nodes_in.Goals as goal
use Rattle.pw_top.proofs.joined.nodes_in.Goals.{in-Some+in_ok-copy_node+in_ok-push, in_default}

pub loop-node-preserved : goal.loop-node-preserved
loop-node-preserved c = let h = node_in c.args.parts.now in let n = c.loop-node.node in elim c.match-node_in.branch [
  | in-Some+in_ok-copy_node+in_ok-push w ↦ w.nodes-is ∙ (w.in_ok-push.ensures.ok ∙ (ap (λ (ns : List PlanNode). ns ++ w.in_ok-copy_node.field-0 ∷ []) c.loop-node.invariant
      ∙ sym (one_given h n w.in_ok-copy_node.field-0 (sym w.in-Some.ensures ∙ ap (λ (x : PlanNode). Some x) (sym w.in_ok-copy_node.ensures)))))
  | in_default w ↦ w.nodes-is ∙ (c.loop-node.invariant ∙ sym (none_given h n (sym w.in_default.ensures)))
]
