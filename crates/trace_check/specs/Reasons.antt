-- The reason for which events are no legal history: the place of the first that is illegal, and
-- what is wrong there, by the events before it.
-- Source: this project's; legal histories are those of `pw_graph`, after PipeWire's documentation,
-- "Graph Scheduling".
use Rattle.std.specs.Prelude.{◌≡◌, ℕ, ◌-◌, ◌⊎◌, List, ◌∷◌, ◌++◌, take, slice_get, Option, Some, None}
use Rattle.pw_graph.specs.declared.event.Event.{Event}
use Rattle.pw_graph.specs.declared.event.Event.TheVariants.{Begin}
use Rattle.pw_graph.specs.declared.shape.Shape.{Shape}
use Rattle.pw_graph.specs.History.{cycles_of, AreJoined, IsLegalHistory}
use Rattle.trace_check.specs.declared.causes.Cause.{Cause}
use Rattle.trace_check.specs.declared.causes.Cause.TheVariants as C
use Rattle.trace_check.specs.declared.reasons.Reason.{Reason}
use Rattle.trace_check.specs.Causes.{IsCauseInside}
use Rattle.trace_check.specs.FirstIllegal.{IsFirstIllegal}

-- events that are those of the first cycles, whole; the one after these is this
pub record IsNext (cycles : List (Shape × ℕ)) (events : List Event) (shape : Shape) (cycle : ℕ)
    : Type 0 where
  pub ended : List (Shape × ℕ)
  pub later : List (Shape × ℕ)
  pub row : cycles ≡ ended ++ (shape, cycle) ∷ later
  pub joined : AreJoined ended events

-- the next cycle has not begun, and what comes is not its Begin
pub record IsCauseBefore (cycles : List (Shape × ℕ)) (events : List Event) (next : Option Event)
    (cause : Cause) : Type 0 where
  pub shape : Shape
  pub cycle : ℕ
  pub is_next : IsNext cycles events shape cycle
  pub other : ¬ (next ≡ Some (Begin cycle))
  pub is : cause ≡ C.NotBegun cycle

-- a cycle has begun, and not ended
pub record IsCauseSince (cycles : List (Shape × ℕ)) (events : List Event) (next : Option Event)
    (cause : Cause) : Type 0 where
  pub shape : Shape
  pub cycle : ℕ
  pub whole : List Event
  pub since : List Event
  pub is_next : IsNext cycles whole shape cycle
  pub begun : events ≡ whole ++ Begin cycle ∷ since
  pub inside : IsCauseInside shape cycle since next cause

abbrev pub IsCauseIn : List (Shape × ℕ) → List Event → Option Event → Cause → Type 0
IsCauseIn cycles events next cause = IsCauseBefore cycles events next cause
    ⊎ IsCauseSince cycles events next cause

-- all cycles have ended, and one event more comes
abbrev pub IsCauseAfter : List Shape → List Event → Option Event → Cause → Type 0
IsCauseAfter shapes events next cause = IsLegalHistory shapes events × ¬ (next ≡ None)
    × (cause ≡ C.AllEnded)

-- WHAT IS WRONG with an event, or with its absence, after these
abbrev pub IsCause : List Shape → List Event → Option Event → Cause → Type 0
IsCause shapes events next cause = IsCauseIn (cycles_of shapes) events next cause
    ⊎ IsCauseAfter shapes events next cause

-- THE REASON, if events are no legal history: the place of the first illegal one, and its cause
abbrev pub IsReasonOn : List Shape → List Event → Option Reason → Type 0
IsReasonOn shapes events None = IsLegalHistory shapes events
IsReasonOn shapes events (Some r) = IsFirstIllegal shapes events r.at
    × IsCause shapes (take (r.at - 1) events) (slice_get events (r.at - 1)) r.cause
