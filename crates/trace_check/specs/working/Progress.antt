-- How far events go on as those of cycles, one cycle after the other.
-- Source: this project's.
use Rattle.std.specs.Prelude.{◌≡◌, ℕ, ◌+◌, ◌<◌, ◌≤◌, List, ◌++◌, length, take, All, slice_get, slice_index_or}
use Rattle.pw_graph.specs.declared.event.Event.{Event}
use Rattle.pw_graph.specs.declared.event.Event.TheVariants.{End}
use Rattle.pw_graph.specs.declared.shape.Shape.{Shape}
use Rattle.pw_graph.specs.SoundShape.{IsSoundShape}
use Rattle.pw_graph.specs.History.{AreJoined}
use Rattle.trace_check.specs.declared.following.Progress.{Progress}
use Rattle.trace_check.specs.declared.following.Progress.TheVariants.{Whole, Part}
use Rattle.trace_check.specs.Causes.{IsCauseInside}
use Rattle.trace_check.specs.Reasons.{IsCauseIn}
use Rattle.trace_check.specs.working.NextEvent.{MayFollow, AreAllowed, HaveFinished}

abbrev pub AreSound : List (Shape × ℕ) → Type 0
AreSound cycles = All (λ c. IsSoundShape c.0) cycles

-- some events after these make the cycles
abbrev pub GoOn : List (Shape × ℕ) → List Event → Type 0
GoOn cycles events = (more : List Event) × AreJoined cycles (events ++ more)

-- the events are not those of the cycles; n of them can go on, and not one more
pub record StopAfter (cycles : List (Shape × ℕ)) (events : List Event) (n : ℕ) : Type 0 where
  pub within : n ≤ length events
  pub goes_on : GoOn cycles (take n events)
  pub stops : n < length events → ¬ GoOn cycles (take (n + 1) events)
  pub illegal : ¬ AreJoined cycles events

-- how many of the events go on
abbrev pub progress_length : Progress → ℕ
progress_length (Whole n) = n
progress_length (Part n cause) = n

-- whatever cycles follow, the events stop
abbrev pub StopsAfter : List (Shape × ℕ) → List Event → ℕ → Type 0
StopsAfter cycles events n = (later : List (Shape × ℕ)) → AreSound later
    → StopAfter (cycles ++ later) events n

-- the first events are the cycles, whole; or they stop, and for this cause
abbrev pub IsProgressOf : List (Shape × ℕ) → List Event → Progress → Type 0
IsProgressOf cycles events (Whole n) = AreJoined cycles (take n events)
IsProgressOf cycles events (Part n cause) = StopsAfter cycles events n
    × IsCauseIn cycles (take n events) (slice_get events n) cause

-- after a Begin: the events before the n-th may follow, and that is the End of the whole cycle; or
-- they stop
abbrev pub IsProgressInside : Shape → ℕ → List Event → Progress → Type 0
IsProgressInside shape cycle events (Whole n) = (n < length events)
    × AreAllowed shape cycle (take n events)
    × HaveFinished shape cycle (take n events)
    × ((d : Event) → slice_index_or events n d ≡ End cycle)
IsProgressInside shape cycle events (Part n cause) = (n ≤ length events)
    × AreAllowed shape cycle (take n events)
    × (n < length events → (d : Event)
    → ¬ MayFollow shape cycle (take n events) (slice_index_or events n d)
    × ((slice_index_or events n d ≡ End cycle) → ¬ HaveFinished shape cycle (take n events)))
    × IsCauseInside shape cycle (take n events) (slice_get events n) cause
