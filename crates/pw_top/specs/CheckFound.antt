-- What `check` found: the reason for which the events of the trace are no legal history of the
-- script's plan, and the event there; or the first line of no event.
-- Source: this project's own; reasons are those of `trace_check`.
use Rattle.std.specs.Prelude.{◌≡◌, ℕ, ◌-◌, List, map, slice_get, Option, Some, None}
use Rattle.std.specs.List.{AllZip}
use Rattle.pw_lists.specs.declared.limit.Which.TheVariants as L
use Rattle.pw_graph.specs.declared.event.Event.{Event}
use Rattle.pw_graph.specs.declared.shape.Shape.{Shape}
use Rattle.pw_outside.specs.Files.{Names}
use Rattle.cycle_trace.specs.TraceReading.{trace_lines, IsLineOf, IsFirstFault}
use Rattle.trace_check.specs.declared.reasons.Reason.{Reason}
use Rattle.trace_check.specs.Reasons.{IsReasonOn}
use Rattle.run_results.specs.declared.found.What.{What}
use Rattle.run_results.specs.declared.found.What.TheVariants.{Check, NoEvent}
use Rattle.run_results.specs.Places.{trace_place}
use Rattle.pw_top.specs.declared.planned.Planned.{Planned}
use Rattle.pw_top.specs.Allowed.{IsLoad, Gives}
use Rattle.pw_top.specs.Check.{trace_bytes_limit}
use Rattle.pw_top.specs.ScriptFile.{PlansFile}

-- the event at the place of a reason
abbrev pub event_at : Option Reason → List Event → Option Event
event_at None events = None
event_at (Some r) events = slice_get events (r.at - 1)

-- IN A TRACE, by the names of nodes and the shapes of epochs: the names, the reason of the events
-- that its lines are of, and the event there; or its first line that is of no event
abbrev pub IsFoundIn : List (List ℕ) → List Shape → List ℕ → What → Type 0
IsFoundIn names shapes bytes (Check known reason event) = (known ≡ names)
    × (events : List Event) × AllZip (IsLineOf names) (trace_lines bytes) events
    × IsReasonOn shapes events reason
    × (event ≡ event_at reason events)
IsFoundIn names shapes bytes (NoEvent number) = IsFirstFault names (trace_lines bytes) number
IsFoundIn names shapes bytes _ = ⊥

-- in the trace that is stored under this name, by a plan
pub record IsFoundUnder (names : Names) (trace : List ℕ) (p : Planned) (what : What)
    : Type 0 where
  pub bytes : List ℕ
  pub load : Gives (IsLoad names trace_place trace trace_bytes_limit L.TraceBytes) bytes
  pub found : IsFoundIn p.script.names (map (λ e. e.shape) p.plan.epochs) bytes what

-- OF `check`: in its trace, by the plan of its script
pub record IsFoundByCheck (names : Names) (script trace : List ℕ) (what : What) : Type 0 where
  pub planned : Planned
  pub plan : Gives (PlansFile names script) planned
  pub found : IsFoundUnder names trace planned what
