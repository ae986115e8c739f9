-- Reading a trace: which events its lines are the lines of, and its first line that is of no event.
-- Source: the form is this project's own.
use Rattle.std.specs.Prelude.{Bool, false, ◌≡◌, ◌≢◌, ℕ, ◌-◌, ◌^◌, ◌<◌, ◌≤◌, ◌==◌, if◌then◌else◌, List, [], ◌∷◌}
use Rattle.pw_lists.specs.Limits.{nodes_limit}
use Rattle.std.specs.Prelude.{◌++◌, length, take, All, AllPairs, codes, slice_index_or}
use Rattle.std.specs.List.{slice_split, AllZip}
use Rattle.pw_graph.specs.declared.event.Event.{Event}
use Rattle.pw_graph.specs.declared.event.Event.TheVariants.{Begin, Start, Finish, Tick, End}
use Rattle.cycle_trace.specs.declared.event_reading.TraceFault.{TraceFault}
use Rattle.cycle_trace.specs.declared.event_reading.TraceFault.TheVariants.{Line, Memory}
use Rattle.cycle_trace.specs.Printable.{NamesNodes}
use Rattle.cycle_trace.specs.EventLines.{event_line}

-- a line feed ends a line
abbrev pub is_line_feed : ℕ → Bool
is_line_feed b = b == 10

-- the pieces without the last, if that is empty: after a last line feed, or of no bytes, there is
-- no line
abbrev pub without_empty_last : List (List ℕ) → List (List ℕ)
without_empty_last [] = []
without_empty_last (piece ∷ []) = if length piece == 0 then [] else piece ∷ []
without_empty_last (piece ∷ (next ∷ rest)) = piece ∷ without_empty_last (next ∷ rest)

-- the lines of a text, without their line feeds; the last may lack its own
abbrev pub trace_lines : List ℕ → List (List ℕ)
trace_lines bytes = without_empty_last (slice_split is_line_feed bytes)

-- the numbers of an event fit: a cycle 32 bits, a late set 64
abbrev pub NumbersFit : Event → Type 0
NumbersFit (Begin cycle) = cycle < 2 ^ 32
NumbersFit (Start cycle node) = cycle < 2 ^ 32
NumbersFit (Finish cycle node) = cycle < 2 ^ 32
NumbersFit (Tick cycle late) = (cycle < 2 ^ 32) × (late < 2 ^ 64)
NumbersFit (End cycle) = cycle < 2 ^ 32

-- EVENT LINE: what is printed for an event whose numbers fit and whose nodes have names
pub record IsLineOf (names : List (List ℕ)) (line : List ℕ) (event : Event) : Type 0 where
  pub fits : NumbersFit event
  pub named : NamesNodes names event
  pub told : line ++ 10 ∷ [] ≡ event_line names event

-- no event has the line
abbrev pub IsNoLine : List (List ℕ) → List ℕ → Type 0
IsNoLine names line = (event : Event) → ¬ IsLineOf names line event

-- the lines before the one of this number, counted from 1, are those of events, and that one is of
-- none
pub record IsFirstFault (names : List (List ℕ)) (lines : List (List ℕ))
    (number : ℕ) : Type 0 where
  pub counted : 1 ≤ number
  pub there : number ≤ length lines
  pub before : List Event
  pub told : AllZip (IsLineOf names) (take (number - 1) lines) before
  pub fault : IsNoLine names (slice_index_or lines (number - 1) [])

-- a space parts words
abbrev pub is_space : ℕ → Bool
is_space b = b == 32

-- a name that a line can name: without a space, and not that of the built-in driver
pub record IsName (name : List ℕ) : Type 0 where
  pub whole : All (λ b. is_space b ≡ false) name
  pub other : name ≢ codes "dummy"

-- at most 63 such names, no two alike
pub record AreNames (names : List (List ℕ)) : Type 0 where
  pub few : length names ≤ nodes_limit
  pub each : All IsName names
  pub distinct : AllPairs (λ a b. a ≢ b) names

-- what an answer without events says
abbrev pub IsFaultOf : List (List ℕ) → List (List ℕ) → TraceFault → Type 0
IsFaultOf names lines (Line number) = IsFirstFault names lines number
IsFaultOf names lines Memory = Unit {0}
