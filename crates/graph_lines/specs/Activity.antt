-- Activity: which links are live, which node drives an epoch, and which nodes are active in it.
-- Source: PipeWire's documentation, "Graph Scheduling" (driver, followers); priorities and the
-- built-in driver 63 are this project's.
use Rattle.std.specs.Prelude.{◌≡◌, ◌⊎◌, ℕ, ◌<◌, ◌≤◌, ◌&&◌, Bool, true, false, List, [], ◌∷◌, Option, Some, None}
use Rattle.pw_lists.specs.Limits.{dummy_node}
use Rattle.std.specs.Prelude.{Contains, filter, slice_index_or, if◌then◌else◌}
use Rattle.pw_graph.specs.declared.kind.Kind.{Kind}
use Rattle.pw_graph.specs.declared.kind.Kind.TheVariants.{Sink, Meter, Dummy}
use Rattle.graph_lines.specs.declared.wire.Wire.{Wire}
use Rattle.graph_lines.specs.declared.standing.Standing.{Standing}

-- a node that no line has made, and what lines have said of a node
abbrev pub nobody : Standing
nobody = record {
  there = false;
  on = false;
  marked = false;
  priority = None;
  k = 0;
  gave_up = false;
  told = 0;
  kept = false;
  ran = 0;
}

abbrev pub standing : List Standing → ℕ → Standing
standing nodes n = slice_index_or nodes n nobody

-- LIVE LINKS: both nodes are on
abbrev pub is_live : List Standing → Wire → Bool
is_live nodes w = (standing nodes w.from.node).on && (standing nodes w.to.node).on

abbrev pub live_wires : List Standing → List Wire → List Wire
live_wires nodes wires = filter (is_live nodes) wires

-- a link has these two nodes, in either direction
abbrev pub Joins : Wire → ℕ → ℕ → Type 0
Joins w a b = ((w.from.node ≡ a) × (w.to.node ≡ b))
    ⊎ ((w.to.node ≡ a) × (w.from.node ≡ b))

-- a walk from a node to another, each link of it taken in either direction
abbrev pub IsWalk : List Wire → ℕ → List Wire → ℕ → Type 0
IsWalk wires a [] b = a ≡ b
IsWalk wires a (w ∷ walk) b = Contains wires w
    × ((m : ℕ) × Joins w a m × IsWalk wires m walk b)

-- JOINED: there is a walk
abbrev pub AreJoined : List Wire → ℕ → ℕ → Type 0
AreJoined wires a b = (walk : List Wire) × IsWalk wires a walk b

-- a link starts or ends at a node
abbrev pub HasWire : List Wire → ℕ → Type 0
HasWire wires n = (w : Wire) × Contains wires w × ((w.from.node ≡ n) ⊎ (w.to.node ≡ n))

-- CANDIDATE: a sink or meter that is on and has a priority; its priority
abbrev pub may_drive : Kind → Bool
may_drive Sink = true
may_drive Meter = true
may_drive _ = false

abbrev pub candidacy : List Kind → List Standing → ℕ → Option ℕ
candidacy kinds nodes n =
    if may_drive (slice_index_or kinds n Dummy) && (standing nodes n).on
    then (standing nodes n).priority else None

-- a node with the greatest priority of all candidates, and the lowest number of these
abbrev pub IsFirst : List Kind → List Standing → ℕ → ℕ → Type 0
IsFirst kinds nodes d p = (candidacy kinds nodes d ≡ Some p)
    × ((m q : ℕ) → candidacy kinds nodes m ≡ Some q → (q < p) ⊎ ((q ≡ p) × (d ≤ m)))

-- DRIVER: that node; 63 where there is no candidate
abbrev pub IsDriver : List Kind → List Standing → ℕ → Type 0
IsDriver kinds nodes d = (((m : ℕ) → candidacy kinds nodes m ≡ None) × (d ≡ dummy_node))
    ⊎ ((p : ℕ) × IsFirst kinds nodes d p)

-- ACTIVE NODES: those that are joined to the driver by live links; under 63, it and all nodes that
-- have a live link
abbrev pub IsActive : List Wire → ℕ → ℕ → Type 0
IsActive live driver n = ((driver ≡ dummy_node) × ((n ≡ dummy_node) ⊎ HasWire live n))
    ⊎ ((driver ≡ dummy_node → ⊥) × AreJoined live n driver)
