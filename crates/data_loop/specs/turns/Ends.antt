-- The links that a node reads and the pools that it fills, by number.
-- Source: PipeWire's documentation, "Graph Scheduling" (a link joins an output port to an input
-- port).
use Rattle.std.specs.Prelude.{ℕ, ◌==◌, List, filter, map}
use Rattle.std.specs.List.{enumerate_from}
use Rattle.pw_graph.specs.declared.shape.Shape.{Shape}
use Rattle.pw_graph.specs.Pools.{pools_of}

-- the links into a node
abbrev pub reads_of : Shape → ℕ → List ℕ
reads_of shape n = map (λ e. e.0) (filter (λ e. e.1.to.node == n) (enumerate_from 0 shape.links))

-- the pools of its output ports
abbrev pub fills_of : Shape → ℕ → List ℕ
fills_of shape n = map (λ e. e.0)
    (filter (λ e. e.1.port.node == n) (enumerate_from 0 (pools_of shape)))
