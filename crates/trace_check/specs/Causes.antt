-- Why an event cannot come in a cycle that has begun, or what is missing where none comes, by the
-- events since its Begin.
-- Source: PipeWire's documentation, "Graph Scheduling"; the causes are this project's.
use Rattle.std.specs.Prelude.{◌≡◌, ℕ, ◌<◌, List, Option, Some, None, Contains, IsBitSet}
use Rattle.pw_graph.specs.declared.event.Event.{Event}
use Rattle.pw_graph.specs.declared.event.Event.TheVariants.{Begin, Start, Finish, Tick, End}
use Rattle.pw_graph.specs.declared.shape.Shape.{Shape}
use Rattle.pw_graph.specs.Dependencies.{nodes_of, Precedes}
use Rattle.trace_check.specs.declared.causes.Cause.{Cause}
use Rattle.trace_check.specs.declared.causes.Cause.TheVariants as C

-- the least number of which something holds
pub record IsLeast (holds : ℕ → Type 0) (n : ℕ) : Type 0 where
  pub here : holds n
  pub least : (m : ℕ) → m < n → ¬ holds m

-- an active node that has not finished
abbrev pub IsLeft : Shape → ℕ → List Event → ℕ → Type 0
IsLeft shape cycle since n = Contains (nodes_of shape) n × ¬ Contains since (Finish cycle n)

-- a node that n waits for: it precedes n, and has not finished
abbrev pub IsAwaited : Shape → ℕ → List Event → ℕ → ℕ → Type 0
IsAwaited shape cycle since n m = Precedes shape m n × ¬ Contains since (Finish cycle m)

-- a node that a Tick calls late, and that is none: it is no follower, or it has finished
abbrev pub IsCalledLate : Shape → ℕ → List Event → ℕ → ℕ → Type 0
IsCalledLate shape cycle since late n = (n < 64) × IsBitSet late n
    × ¬ (¬ (n ≡ shape.driver) × IsLeft shape cycle since n)

-- an event of the cycle, after its Begin
abbrev pub IsEventOf : ℕ → Event → Type 0
IsEventOf cycle (Begin c) = ⊥
IsEventOf cycle (Start c n) = c ≡ cycle
IsEventOf cycle (Finish c n) = c ≡ cycle
IsEventOf cycle (Tick c late) = c ≡ cycle
IsEventOf cycle (End c) = c ≡ cycle

-- an event that is none of the cycle; or there is no event, and all nodes have finished
abbrev pub IsNoneOf : Shape → ℕ → List Event → Option Event → Type 0
IsNoneOf shape cycle since (Some event) = ¬ IsEventOf cycle event
IsNoneOf shape cycle since None = (n : ℕ) → Contains (nodes_of shape) n
    → Contains since (Finish cycle n)

-- the End of the cycle, or no event
abbrev pub IsEnding : ℕ → Option Event → Type 0
IsEnding cycle (Some event) = event ≡ End cycle
IsEnding cycle None = Unit {0}

-- THE CAUSE for which the next event, or its absence, is not that of a legal cycle; of nodes the
-- least is named
abbrev pub IsCauseInside : Shape → ℕ → List Event → Option Event → Cause → Type 0
IsCauseInside shape cycle since next C.AllEnded = ⊥
IsCauseInside shape cycle since next (C.NotBegun k) = ⊥
IsCauseInside shape cycle since next (C.NotEnded k) = (k ≡ cycle)
    × IsNoneOf shape cycle since next
IsCauseInside shape cycle since next (C.NotFinished k m) = (k ≡ cycle) × IsEnding cycle next
    × IsLeast (IsLeft shape cycle since) m
IsCauseInside shape cycle since next C.NotActive = (n : ℕ) × (next ≡ Some (Start cycle n))
    × ¬ Contains (nodes_of shape) n
IsCauseInside shape cycle since next C.Started = (n : ℕ) × (next ≡ Some (Start cycle n))
    × Contains since (Start cycle n)
IsCauseInside shape cycle since next (C.WaitsFor m) = (n : ℕ) × (next ≡ Some (Start cycle n))
    × IsLeast (IsAwaited shape cycle since n) m
IsCauseInside shape cycle since next C.NotStarted = (n : ℕ) × (next ≡ Some (Finish cycle n))
    × ¬ Contains since (Start cycle n)
IsCauseInside shape cycle since next C.Finished = (n : ℕ) × (next ≡ Some (Finish cycle n))
    × Contains since (Finish cycle n)
IsCauseInside shape cycle since next C.Ticked = (late : ℕ) × (next ≡ Some (Tick cycle late))
    × (j : ℕ) × (set : ℕ) × Contains since (Tick j set)
IsCauseInside shape cycle since next C.DriverStarted = (late : ℕ)
    × (next ≡ Some (Tick cycle late)) × Contains since (Start cycle shape.driver)
IsCauseInside shape cycle since next (C.NotLate m) = (late : ℕ)
    × (next ≡ Some (Tick cycle late)) × IsLeast (IsCalledLate shape cycle since late) m
