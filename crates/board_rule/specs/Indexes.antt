-- The nodes of a shape by their indexes, and how many words a board has.
-- Source: PipeWire's documentation, "Graph Scheduling" (required, target list); the words are this
-- project's.
use Rattle.std.specs.Prelude.{ℕ, ◌==◌, List, map, length}
use Rattle.std.specs.List.{position_or_len}
use Rattle.pw_graph.specs.declared.shape.Shape.{Shape}
use Rattle.pw_graph.specs.Dependencies.{nodes_of}
use Rattle.pw_graph.specs.Layout.{start_words}

-- the index of a node; the number of nodes, where there is no such node
abbrev pub index_in : Shape → ℕ → ℕ
index_in shape n = position_or_len (λ k. k == n) (nodes_of shape)

-- the targets of each node, by indexes
abbrev pub target_rows : Shape → List (List ℕ)
target_rows shape = map (λ n. map (index_in shape) n.targets) shape.nodes

-- the required count of each node
abbrev pub required_row : Shape → List ℕ
required_row shape = map (λ n. n.required) shape.nodes

-- how many words a board has
unfoldable pub word_count : Shape → ℕ
word_count shape = length (start_words shape)
