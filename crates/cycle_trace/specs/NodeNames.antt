-- Names of nodes and ports in a text. Source: the form is this project's own.
use Rattle.std.specs.Prelude.{ℕ, ◌==◌, if◌then◌else◌, List, [], ◌++◌, map, codes, slice_index_or}
use Rattle.pw_graph.specs.declared.ids.TheConstants.{DUMMY}
use Rattle.pw_graph.specs.declared.ids.PortId.{PortId}
use Rattle.pw_graph.specs.declared.kind.Kind.{Kind}
use Rattle.pw_graph.specs.declared.kind.Kind.TheVariants.{Dummy}
use Rattle.pw_graph.specs.declared.plan.PlanNode.{PlanNode}
use Rattle.pw_graph.specs.KindPorts.{port_name}

-- the name of the node at a place
abbrev pub name_at : List PlanNode → ℕ → List ℕ
name_at nodes place = slice_index_or (map (λ n. n.name) nodes) place []

-- the kind of the node at a place
abbrev pub kind_at : List PlanNode → ℕ → Kind
kind_at nodes place = slice_index_or (map (λ n. n.kind) nodes) place Dummy

-- the name of a node of an event, by the names of the nodes: the built-in driver is called dummy
abbrev pub node_name : List (List ℕ) → ℕ → List ℕ
node_name names node = if node == DUMMY then codes "dummy" else slice_index_or names node []

-- a port: its node's name, a dot and its own name
abbrev pub endpoint : List PlanNode → PortId → List ℕ
endpoint nodes at = name_at nodes at.node ++ codes "." ++ port_name (kind_at nodes at.node) at.port
