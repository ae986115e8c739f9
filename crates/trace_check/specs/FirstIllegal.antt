-- The place of the first event after which no legal history can follow, among the events of a
-- trace.
-- Source: this project's; legal histories are those of `pw_graph`, after PipeWire's documentation,
-- "Graph Scheduling".
use Rattle.std.specs.Prelude.{◌≡◌, ℕ, ◌+◌, ◌<◌, ◌≤◌, ◌⊎◌, List, ◌++◌, length, take}
use Rattle.pw_graph.specs.declared.event.Event.{Event}
use Rattle.pw_graph.specs.declared.shape.Shape.{Shape}
use Rattle.pw_graph.specs.History.{IsLegalHistory}
use Rattle.trace_check.specs.declared.checking.Verdict.{Verdict}
use Rattle.trace_check.specs.declared.checking.Verdict.TheVariants.{Legal, Illegal}

-- some events after these make a legal history of the epochs
abbrev pub CanGoOn : List Shape → List Event → Type 0
CanGoOn shapes events = (more : List Event) × IsLegalHistory shapes (events ++ more)

-- PLACE OF THE FIRST ILLEGAL EVENT, of events that are no legal history: the least n from 1 such
-- that the first n events cannot go on to one, or one past the end where they all can
pub record IsFirstIllegal (shapes : List Shape) (events : List Event) (at : ℕ) : Type 0 where
  pub illegal : ¬ IsLegalHistory shapes events
  pub counted : 1 ≤ at
  pub before : (n : ℕ) → n < at → CanGoOn shapes (take n events)
  pub fault : ((at ≤ length events) × ¬ CanGoOn shapes (take at events))
      ⊎ (at ≡ length events + 1)

-- VERDICT on events: that they are a legal history, or the place of the first illegal one
abbrev pub IsVerdictOn : List Shape → List Event → Verdict → Type 0
IsVerdictOn shapes events Legal = IsLegalHistory shapes events
IsVerdictOn shapes events (Illegal at) = IsFirstIllegal shapes events at
