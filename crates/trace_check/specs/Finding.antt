-- What is found of a trace: its first line that is no event line, or else the verdict on its
-- events.
-- Source: this project's; event lines are those of `cycle_trace`.
use Rattle.std.specs.Prelude.{◌≡◌, ℕ, false, List, All, flat_map}
use Rattle.std.specs.List.{AllZip}
use Rattle.pw_graph.specs.declared.event.Event.{Event}
use Rattle.pw_graph.specs.declared.shape.Shape.{Shape}
use Rattle.cycle_trace.specs.EventLines.{event_line}
use Rattle.cycle_trace.specs.Printable.{NamesNodes}
use Rattle.cycle_trace.specs.TraceReading.{is_line_feed, trace_lines, NumbersFit, IsLineOf, IsFirstFault}
use Rattle.trace_check.specs.declared.trace.Finding.{Finding}
use Rattle.trace_check.specs.declared.trace.Finding.TheVariants.{Line, Events}
use Rattle.trace_check.specs.FirstIllegal.{IsVerdictOn}

-- FINDING on a trace, by the names of nodes and the shapes of epochs
abbrev pub IsFindingOn : List (List ℕ) → List Shape → List ℕ → Finding → Type 0
IsFindingOn names shapes bytes (Line number) = IsFirstFault names (trace_lines bytes) number
IsFindingOn names shapes bytes (Events verdict) = (events : List Event)
    × AllZip (IsLineOf names) (trace_lines bytes) events × IsVerdictOn shapes events verdict

-- the bytes are what is printed of a history: one event line after the other; its numbers fit, and
-- its nodes have names, in which no line ends
pub record IsPrinted (names : List (List ℕ)) (history : List Event) (bytes : List ℕ)
    : Type 0 where
  pub whole : All (λ name. All (λ b. is_line_feed b ≡ false) name) names
  pub fits : All NumbersFit history
  pub named : All (NamesNodes names) history
  pub told : bytes ≡ flat_map (event_line names) history
