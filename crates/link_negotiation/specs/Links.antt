-- The links that are there, in the order in which they were made, and the nodes that are
-- asynchronous.
-- Source: PipeWire's documentation, "Objects Design", Link, and "Graph Scheduling"; a script marks
-- asynchronous nodes.
use Rattle.std.specs.Prelude.{◌≡◌, ℕ, ◌==◌, ◌&&◌, ◌||◌, Bool, true, false, not, List, [], ◌∷◌, slice_index_or}
use Rattle.std.specs.List.{Contains, filter, list_any}
use Rattle.pw_graph.specs.declared.ids.PortId.{PortId}
use Rattle.pw_graph.specs.Pools.{is_same_port}
use Rattle.link_negotiation.specs.declared.link.Link.{Link}

pub record LinkState : Type 0 where
  pub made : List Link
  pub marks : List Bool

abbrev pub link_of : PortId → PortId → Link
link_of from to = record { from = from; to = to }

-- whether a link joins these two ports, and whether one is there that does
abbrev pub joins : PortId → PortId → Link → Bool
joins from to link = is_same_port link.from from && is_same_port link.to to

abbrev pub are_linked : List Link → PortId → PortId → Bool
are_linked made from to = list_any (joins from to) made

-- whether a node has a link left
abbrev pub has_link : List Link → ℕ → Bool
has_link made n = list_any (λ l. (l.from.node == n) || (l.to.node == n)) made

-- SYNCHRONOUS: neither of its two nodes is marked
abbrev pub is_marked : LinkState → ℕ → Bool
is_marked s n = slice_index_or s.marks n false

abbrev pub is_synchronous : LinkState → Link → Bool
is_synchronous s link = not (is_marked s link.from.node) && not (is_marked s link.to.node)

abbrev pub synchronous_links : LinkState → List Link
synchronous_links s = filter (is_synchronous s) s.made

-- a walk from a node along links, one after the other, to another
abbrev pub IsWalk : List Link → ℕ → List Link → ℕ → Type 0
IsWalk links a [] b = a ≡ b
IsWalk links a (l ∷ walk) b = Contains links l × (l.from.node ≡ a)
    × IsWalk links l.to.node walk b

-- REACHABLE: there is a walk
abbrev pub IsReachable : List Link → ℕ → ℕ → Type 0
IsReachable links a b = (walk : List Link) × IsWalk links a walk b

-- LOOP: both ports are of one node; or the link would be synchronous, and a walk along synchronous
-- links leads back
abbrev pub IsSynchronousLoop : LinkState → PortId → PortId → Type 0
IsSynchronousLoop s from to =
    (is_synchronous s (link_of from to) ≡ true)
    × IsReachable (synchronous_links s) to.node from.node
