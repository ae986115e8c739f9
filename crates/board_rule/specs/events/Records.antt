-- What the event rule reads of a board: its words, and of the phases the tickets and events that
-- they have drawn.
-- Source: this project's own; the phases are those of src/view.rt.
use Rattle.std.specs.Prelude.{ℕ, Bool, cond, List, [], ◌∷◌, ◌++◌}
use Rattle.pw_graph.specs.declared.event.Event.{Event}
use Rattle.pw_graph.specs.declared.event.Event.TheVariants.{Begin, End}
use Rattle.board_rule.specs.declared.view.Found.{Found}

-- what the rule reads of the words: the ticket word, the event word of each ticket, the late set of
-- each cycle of the epoch
pub record Records : Type 0 where
  pub ticket : ℕ
  pub event : ℕ → ℕ
  pub late : ℕ → ℕ

-- and of the phases. Of the driver's cycle: how many Starts and Finishes each index has drawn,
-- whether a Tick is drawn, and what the check under way has loaded
pub record Counts : Type 0 where
  pub started : ℕ → ℕ
  pub finished : ℕ → ℕ
  pub checked : Bool
  pub sees : List Found

-- the tickets that each index drew last and holds, those of a Begin, a Tick or an End that are
-- held, and whether Begin and End are drawn
pub record Marks : Type 0 where
  pub counts : Counts
  pub start : ℕ → ℕ
  pub finish : ℕ → ℕ
  pub holds : ℕ → List ℕ
  pub tells : List (ℕ × Event)
  pub begun : Bool
  pub ending : Bool

-- the events of the cycle c so far
abbrev pub so_far : Marks → ℕ → List Event → List Event
so_far s c inside = cond s.begun
    (cond s.ending (Begin c ∷ (inside ++ End c ∷ [])) (Begin c ∷ inside)) []
