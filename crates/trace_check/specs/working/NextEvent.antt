-- Which event may come next in a cycle, between its Begin and its End, after those so far.
-- Source: PipeWire's documentation, "Graph Scheduling". That these rules give the prefixes of legal
-- cycles is proved.
use Rattle.std.specs.Prelude.{◌≡◌, ℕ, ◌<◌, List, length, take, Contains, IsBitSet, slice_index_or}
use Rattle.pw_graph.specs.declared.event.Event.{Event}
use Rattle.pw_graph.specs.declared.event.Event.TheVariants.{Start, Finish, Tick}
use Rattle.pw_graph.specs.declared.shape.Shape.{Shape}
use Rattle.pw_graph.specs.Dependencies.{nodes_of, Precedes}

-- a follower that has not finished
abbrev pub IsUnfinished : Shape → ℕ → List Event → ℕ → Type 0
IsUnfinished shape cycle front n = Contains (nodes_of shape) n × ¬ (n ≡ shape.driver)
    × ¬ Contains front (Finish cycle n)

-- a node starts once, after all that precede it have finished; it finishes once, after its start;
-- there is one Tick, before the driver's start, of followers that have not finished
abbrev pub MayFollow : Shape → ℕ → List Event → Event → Type 0
MayFollow shape cycle front (Start c n) = (c ≡ cycle) × Contains (nodes_of shape) n
    × ¬ Contains front (Start cycle n)
    × ((m : ℕ) → Precedes shape m n → Contains front (Finish cycle m))
MayFollow shape cycle front (Finish c n) = (c ≡ cycle) × Contains front (Start cycle n)
    × ¬ Contains front (Finish cycle n)
MayFollow shape cycle front (Tick c late) = (c ≡ cycle)
    × ((j set : ℕ) → ¬ Contains front (Tick j set))
    × ¬ Contains front (Start cycle shape.driver)
    × ((n : ℕ) → n < 64 → IsBitSet late n → IsUnfinished shape cycle front n)
MayFollow shape cycle front _ = ⊥

-- each event may follow those before it
abbrev pub AreAllowed : Shape → ℕ → List Event → Type 0
AreAllowed shape cycle events = (k : ℕ) (d : Event) → k < length events
    → MayFollow shape cycle (take k events) (slice_index_or events k d)

-- all nodes have finished
abbrev pub HaveFinished : Shape → ℕ → List Event → Type 0
HaveFinished shape cycle events = (n : ℕ) → Contains (nodes_of shape) n
    → Contains events (Finish cycle n)
