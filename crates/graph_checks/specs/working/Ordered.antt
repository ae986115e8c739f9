-- Order in a cycle by the places of nodes in a shape, as a checker goes through them; `KeepsOrder`
-- says the same by their numbers.
-- Source: PipeWire's documentation, "Graph Scheduling".
use Rattle.std.specs.Prelude.{◌≡◌, ℕ, ◌<◌, List, All, IsTrue}
use Rattle.pw_graph.specs.declared.event.Event.{Event}
use Rattle.pw_graph.specs.declared.shape.Shape.{Shape}
use Rattle.pw_graph.specs.declared.shape.ShapeNode.{ShapeNode}
use Rattle.pw_graph.specs.Dependencies.{waits}
use Rattle.pw_graph.specs.History.{start_place, finish_place, RunsOnce}

-- where n waits for the work of m, the Finish of m is before the Start of n
unfoldable pub IsOrdered : Shape → List Event → ℕ → ShapeNode → ShapeNode → Type 0
IsOrdered shape events cycle n m = IsTrue (waits shape n.node m.node)
    → ¬ (m.node ≡ shape.driver)
    → finish_place events cycle m.node < start_place events cycle n.node

-- so for each m
unfoldable pub StartsLast : Shape → List Event → ℕ → ShapeNode → Type 0
StartsLast shape events cycle n = All (IsOrdered shape events cycle n) shape.nodes

-- a node of the shape runs once
unfoldable pub IsRun : List Event → ℕ → ShapeNode → Type 0
IsRun events cycle n = RunsOnce events cycle n.node
