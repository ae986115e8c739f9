-- The plan that is read off the graph at a script's end.
-- Source: this project's.
use Rattle.std.specs.Prelude.{◌≡◌, ◌⊎◌, ℕ, List, [], length, slice_get, slice_index_or, Some}
use Rattle.pw_graph.specs.declared.kind.Kind.{Kind}
use Rattle.pw_graph.specs.declared.kind.Kind.TheVariants.{Dummy}
use Rattle.pw_graph.specs.declared.plan.PlanNode.{PlanNode}
use Rattle.pw_graph.specs.declared.plan.Plan.{Plan}
use Rattle.pw_graph.specs.KindRanges.{IsSinkOrMeter}
use Rattle.graph_lines.specs.declared.graph.Graph.{Graph}
use Rattle.graph_lines.specs.Activity.{standing}
use Rattle.graph_lines.specs.Forms.{FormIn}

-- a sink or meter whose one input has a format, and so a form
abbrev pub HasEnd : Graph → ℕ → Kind → ℕ → ℕ → Type 0
HasEnd g n kind rate channels =
    IsSinkOrMeter kind × FormIn g.ports (record { node = n; port = 0 }) rate channels

-- the rate and channels that a node ends with; both 0 without a format, and for other kinds
abbrev pub IsEndOf : Graph → ℕ → Kind → ℕ → ℕ → Type 0
IsEndOf g n kind rate channels = HasEnd g n kind rate channels
    ⊎ ((rate ≡ 0) × (channels ≡ 0) × ((r c : ℕ) → HasEnd g n kind r c → ⊥))

-- node n of the plan: its name, its kind, the loop that it asks for, and how it ends
pub record IsNodeOf (names : List (List ℕ)) (g : Graph) (n : ℕ) (node : PlanNode) : Type 0 where
  pub name : node.name ≡ slice_index_or names n []
  pub kind : node.kind ≡ slice_index_or g.kinds n Dummy
  pub k : node.k ≡ (standing g.nodes n).k
  pub ends : IsEndOf g n node.kind node.rate node.channels

-- PLAN: all that the lines have made
pub record IsPlanOf (names : List (List ℕ)) (g : Graph) (plan : Plan) : Type 0 where
  pub quantum : plan.quantum ≡ g.quantum
  pub count : length plan.nodes ≡ length g.kinds
  pub nodes : (n : ℕ) (node : PlanNode) → slice_get plan.nodes n ≡ Some node
      → IsNodeOf names g n node
  pub epochs : plan.epochs ≡ g.epochs
  pub lines : plan.lines ≡ g.lines
