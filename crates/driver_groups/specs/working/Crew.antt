-- The runs of parts by threads: what the caller's thread leads with, and what is left.
-- Source: this project's own.
use Rattle.std.specs.Prelude.{◌≡◌, ◌<◌, ◌≤◌, Bool, true, false, List, [], ◌∷◌, length, map}
use Rattle.std.specs.List.{AllZip}
use Rattle.graph_run.specs.declared.alone.AloneRun.{AloneRun}
use Rattle.graph_run.specs.declared.ended.EndedRun.{EndedRun}
use Rattle.graph_run.specs.RunStates.{CanRunAlone, HasRunAlone}
use Rattle.driver_groups.specs.declared.crew.LeadEnd.{LeadEnd}
use Rattle.driver_groups.specs.declared.crew.LeadStart.{LeadStart}
use Rattle.driver_groups.specs.declared.crew.PlacedRun.{PlacedRun}

-- runs without their places
abbrev pub runs_of : List PlacedRun → List AloneRun
runs_of placed = map (λ p. p.run) placed

-- two lists in one order: the next of the first where the flag is up, else the next of the second
abbrev pub merged : {A : Type 0} → List Bool → List A → List A → List A
merged [] a b = []
merged (true ∷ flags) [] b = merged flags [] b
merged (true ∷ flags) (x ∷ a) b = x ∷ merged flags a b
merged (false ∷ flags) a [] = merged flags a []
merged (false ∷ flags) a (x ∷ b) = x ∷ merged flags a b

-- BEFORE IT: the first may run, and there is room for it and for all others
pub record CanLead (l : LeadStart) (others : List PlacedRun) : Type 0 where
  pub first : CanRunAlone l.first
  pub bare : (l.waited.list ≡ []) × (l.ended.list ≡ [])
  pub waited : length others ≤ l.waited.spare
  pub ended : length others < l.ended.spare

-- LED: the first has run, and those that had no thread
pub record HasLedFirst (l : LeadStart) (held : List PlacedRun) (h : LeadEnd) : Type 0 where
  pub first : HasRunAlone l.first h.first
  pub waited : AllZip (λ p e. HasRunAlone p.run e) held h.waited
  pub room : h.ended ≡ l.ended

-- AFTER IT all have run, in the order of the parts
abbrev pub HaveEnded : LeadStart → List PlacedRun → List EndedRun → Type 0
HaveEnded l others ended = AllZip HasRunAlone (l.first ∷ runs_of others) ended
