-- Dependencies: which nodes of a shape wait for which in a cycle; links that are not delayed count.
-- Source: PipeWire's documentation, "Graph Scheduling" (required, target list); the driver's own
-- place is this project's.
use Rattle.std.specs.Prelude.{◌≡◌, ℕ, ◌==◌, ◌&&◌, ◌||◌, Bool, not, List, [], ◌∷◌, ◌++◌, map, filter, length, IsTrue, Contains}
use Rattle.std.specs.List.{list_any}
use Rattle.pw_graph.specs.declared.shape.Shape.{Shape}
use Rattle.pw_graph.specs.declared.shape.ShapeLink.{ShapeLink}

-- the numbers of the active nodes
abbrev pub nodes_of : Shape → List ℕ
nodes_of shape = map (λ n. n.node) shape.nodes

-- a link that is not delayed goes from m to n
abbrev pub joins : ℕ → ℕ → ShapeLink → Bool
joins m n link = not link.delayed && ((link.from.node == m) && (link.to.node == n))

abbrev pub are_linked : Shape → ℕ → ℕ → Bool
are_linked shape m n = list_any (joins m n) shape.links

-- n waits for m: a link goes from m to n, or one of them is the driver, which also waits for itself
abbrev pub waits : Shape → ℕ → ℕ → Bool
waits shape n m = (m == shape.driver) || ((n == shape.driver) || are_linked shape m n)

-- DEPENDENCY: of two active nodes, m is a dependency of n
pub record IsDependency (shape : Shape) (m n : ℕ) : Type 0 where
  pub from_active : Contains (nodes_of shape) m
  pub to_active : Contains (nodes_of shape) n
  pub waits : IsTrue (waits shape n m)

-- the dependencies of a node, in the order of the nodes
abbrev pub dependencies_of : Shape → ℕ → List ℕ
dependencies_of shape n = filter (waits shape n) (nodes_of shape)

-- REQUIRED COUNT: how many dependencies a node has; several links between two nodes make one
abbrev pub required_of : Shape → ℕ → ℕ
required_of shape n = length (dependencies_of shape n)

-- TARGET LIST: the followers of which m is a dependency, then the driver
abbrev pub targets_of : Shape → ℕ → List ℕ
targets_of shape m = filter (λ n. not (n == shape.driver) && waits shape n m) (nodes_of shape)
    ++ shape.driver ∷ []

-- PRECEDES: in each cycle, the Finish of m is before the Start of n; so no node waits for the
-- driver's own work
pub record Precedes (shape : Shape) (m n : ℕ) : Type 0 where
  pub depends : IsDependency shape m n
  pub follower : ¬ (m ≡ shape.driver)
