use Rattle.std.proofs.Common.{◌≡◌, ℕ, length}
use Rattle.std.specs.Prelude.{slice_get, Some}
use Rattle.pw_graph.specs.declared.plan.PlanNode.{PlanNode}
use Rattle.graph_plan.specs.PlanOf.{IsNodeOf}
use Rattle.graph_plan.proofs.plan_nodes.nodes_of.Given as goal

abbrev pub invariant-loop-node : goal.invariant-loop-node
invariant-loop-node l = record {
  count : length l.nodes ≡ l.node;
  each : (n : ℕ) (node : PlanNode) → slice_get l.nodes n ≡ Some node → IsNodeOf l.names l.graph n node;
}
