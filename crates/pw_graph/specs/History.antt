-- Legal histories: events, cycle by cycle, in the order of their tickets. Source: PipeWire's
-- documentation, "Graph Scheduling".
use Rattle.std.specs.Prelude.{◌≡◌, ℕ, ◌<◌, ◌≤◌, List, [], ◌∷◌, ◌++◌, map, count_by, All}
use Rattle.std.specs.Prelude.{Contains, IsBitSet}
use Rattle.std.specs.List.{flat_map, range_with_len, AllZip}
use Rattle.pw_graph.specs.declared.event.Event.{Event}
use Rattle.pw_graph.specs.declared.event.Event.TheVariants.{Begin, Start, Finish, Tick, End}
use Rattle.pw_graph.specs.declared.shape.Shape.{Shape}
use Rattle.pw_graph.specs.Dependencies.{nodes_of, Precedes}
pub use Rattle.pw_graph.specs.EventPlaces.{is_start, is_finish, is_tick, start_place, finish_place, tick_place}

-- a late node is a follower, and finishes after the Tick
abbrev pub IsLate : Shape → List Event → ℕ → ℕ → Type 0
IsLate shape events cycle n = Contains (nodes_of shape) n × ¬ (n ≡ shape.driver)
    × (tick_place events < finish_place events cycle n)

-- an event between Begin and End: a Start or Finish of an active node, or a Tick of late nodes
-- before the driver's Start
abbrev pub IsOfCycle : Shape → List Event → ℕ → Event → Type 0
IsOfCycle shape events cycle (Start c n) = (c ≡ cycle) × Contains (nodes_of shape) n
IsOfCycle shape events cycle (Finish c n) = (c ≡ cycle) × Contains (nodes_of shape) n
IsOfCycle shape events cycle (Tick c late) = (c ≡ cycle)
    × (tick_place events < start_place events cycle shape.driver)
    × ((n : ℕ) → n < 64 → IsBitSet late n → IsLate shape events cycle n)
IsOfCycle shape events cycle _ = ⊥

-- a node has one Start and one Finish, the Start first
pub record RunsOnce (events : List Event) (cycle node : ℕ) : Type 0 where
  pub start : count_by (is_start cycle node) events ≡ 1
  pub finish : count_by (is_finish cycle node) events ≡ 1
  pub order : start_place events cycle node < finish_place events cycle node

-- where m precedes n, the Finish of m is before the Start of n
pub record KeepsOrder (shape : Shape) (events : List Event) (cycle : ℕ) : Type 0 where
  pub waits : (m n : ℕ) → Precedes shape m n
      → finish_place events cycle m < start_place events cycle n

-- the events between Begin and End: each node runs once, after all that precede it; at most one
-- Tick; nothing else
pub record IsLegalInside (shape : Shape) (events : List Event) (cycle : ℕ) : Type 0 where
  pub only : All (IsOfCycle shape events cycle) events
  pub nodes : All (λ n. RunsOnce events cycle n.node) shape.nodes
  pub order : KeepsOrder shape events cycle
  pub ticks : count_by is_tick events ≤ 1

-- LEGAL CYCLE: Begin, what is legal inside, End
abbrev pub IsLegalCycle : Shape → ℕ → List Event → Type 0
IsLegalCycle shape cycle part = (events : List Event)
    × (part ≡ Begin cycle ∷ (events ++ End cycle ∷ [])) × IsLegalInside shape events cycle

-- the cycles of an epoch, and of epochs in order, each with its shape
abbrev pub epoch_cycles : Shape → ℕ → List (Shape × ℕ)
epoch_cycles shape count = map (λ k. (shape, k)) (range_with_len shape.first count)

abbrev pub cycles_of : List Shape → List (Shape × ℕ)
cycles_of shapes = flat_map (λ s. epoch_cycles s s.cycles) shapes

-- the parts of cycles one after the other, each legal
pub record AreJoined (cycles : List (Shape × ℕ)) (events : List Event) : Type 0 where
  pub parts : List (List Event)
  pub joined : events ≡ flat_map (λ part. part) parts
  pub legal : AllZip (λ c part. IsLegalCycle c.0 c.1 part) cycles parts

-- LEGAL HISTORY: the parts of all cycles of all epochs, in order
abbrev pub IsLegalHistory : List Shape → List Event → Type 0
IsLegalHistory shapes events = AreJoined (cycles_of shapes) events
