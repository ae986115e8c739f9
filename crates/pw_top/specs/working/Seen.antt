-- What is seen of a trace: its first line that is of no event, or the reason of its events and the
-- event there; what the text says of it, and what is found.
-- Source: this project's own; event lines are those of `cycle_trace`.
use Rattle.std.specs.Prelude.{◌≡◌, ℕ, List, Option, Some, None}
use Rattle.std.specs.List.{AllZip}
use Rattle.pw_graph.specs.declared.event.Event.{Event}
use Rattle.pw_graph.specs.declared.shape.Shape.{Shape}
use Rattle.cycle_trace.specs.TraceReading.{trace_lines, IsLineOf, IsFirstFault}
use Rattle.trace_check.specs.declared.checking.Verdict.{Verdict}
use Rattle.trace_check.specs.declared.checking.Verdict.TheVariants.{Legal, Illegal}
use Rattle.trace_check.specs.declared.reasons.Reason.{Reason}
use Rattle.trace_check.specs.declared.trace.Finding.{Finding}
use Rattle.trace_check.specs.declared.trace.Finding.TheVariants as F
use Rattle.trace_check.specs.Reasons.{IsReasonOn}
use Rattle.pw_top.specs.declared.commands.check_traces.Seen.{Seen}
use Rattle.pw_top.specs.declared.commands.check_traces.Seen.TheVariants.{Line, Events}
use Rattle.run_results.specs.declared.found.What.{What}
use Rattle.run_results.specs.declared.found.What.TheVariants.{Check, NoEvent}
use Rattle.pw_top.specs.CheckFound.{event_at}

-- SEEN on a trace, by the names of nodes and the shapes of epochs
abbrev pub IsSeenOn : List (List ℕ) → List Shape → List ℕ → Seen → Type 0
IsSeenOn names shapes bytes (Line number) = IsFirstFault names (trace_lines bytes) number
IsSeenOn names shapes bytes (Events reason event) = (events : List Event)
    × AllZip (IsLineOf names) (trace_lines bytes) events × IsReasonOn shapes events reason
    × (event ≡ event_at reason events)

-- the verdict has the place of the reason
abbrev pub verdict_by : Option Reason → Verdict
verdict_by None = Legal
verdict_by (Some reason) = Illegal reason.at

abbrev pub finding_by : Seen → Finding
finding_by (Line number) = F.Line number
finding_by (Events reason event) = F.Events (verdict_by reason)

-- by the names of nodes
abbrev pub what_by : List (List ℕ) → Seen → What
what_by names (Line number) = NoEvent number
what_by names (Events reason event) = Check names reason event
