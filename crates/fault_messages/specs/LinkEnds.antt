-- The ends of links, as the text of a run has them: the name of a node, a dot and that of its port.
-- Source: the form is that of `cycle_trace`.
use Rattle.std.specs.Prelude.{ℕ, List, [], ◌++◌, codes, slice_get, Option, Some, None}
use Rattle.pw_graph.specs.declared.ids.PortId.{PortId}
use Rattle.pw_graph.specs.declared.plan.PlanNode.{PlanNode}
use Rattle.pw_graph.specs.KindPorts.{port_name}
use Rattle.shown_words.specs.Escaping.{escaped}

-- the port of a node; nothing where there is no node
abbrev pub end_of : Option PlanNode → ℕ → List ℕ
end_of None port = []
end_of (Some node) port = escaped node.name ++ (codes "." ++ port_name node.kind port)

-- AN END in quotes, by the plan's nodes
unfoldable pub quoted_end : List PlanNode → PortId → List ℕ
quoted_end nodes at =
    codes "\"" ++ (end_of (slice_get nodes at.node) at.port ++ codes "\"")
