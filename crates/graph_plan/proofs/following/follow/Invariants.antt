use Rattle.std.proofs.Common.{◌≡◌, ℕ, drop}
use Rattle.std.specs.Prelude.{Result}
use Rattle.pw_lists.specs.declared.limit.Which.{Which}
use Rattle.graph_lines.specs.declared.graph.Graph.{Graph}
use Rattle.graph_lines.specs.Ready.{IsReady, HasRan}
use Rattle.graph_plan.specs.Following.{Follows}
use Rattle.graph_plan.proofs.following.follow.Given as goal

-- whatever the lines that are left do next, all lines do
abbrev pub invariant-loop-line : goal.invariant-loop-line
invariant-loop-line l = record {
  ready : IsReady l.graph;
  ran : HasRan l.graph;
  kinds : l.graph.kinds ≡ l.fn.graph.kinds;
  rest : (outcome : Result Graph (ℕ × Which)) → Follows l.waves l.graph (drop l.line-index l.lines) outcome
      → Follows l.waves l.fn.graph l.lines outcome;
}
