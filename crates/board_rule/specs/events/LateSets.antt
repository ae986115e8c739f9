-- The late sets that the driver's seat keeps of its checks, as the log has them.
-- Source: this project's own; near to PipeWire's xrun reports, without time.
use Rattle.std.specs.Prelude.{ℕ, ◌&&◌, Bool, true, false, not, cond, List, [], ◌∷◌, ◌++◌, filter}
use Rattle.pw_graph.specs.declared.event.Event.{Event}
use Rattle.pw_graph.specs.declared.event.Event.TheVariants.{Tick}
use Rattle.pw_graph.specs.History.{is_tick}
use Rattle.board_rule.specs.declared.view.DriverPhase.{DriverPhase}
use Rattle.board_rule.specs.declared.view.DriverPhase.TheVariants as drives
use Rattle.board_rule.specs.declared.view.DriverView.{DriverView}

-- a check is under way whose late set is not yet stored
abbrev pub is_looking : DriverPhase → Bool
is_looking drives.Checking = true
is_looking _ = false

-- THE TICKS whose late sets are stored, by the events of earlier cycles and the late set of this
-- one
abbrev pub stored_ticks : List Event → DriverView → ℕ → List Event
stored_ticks past l late = filter is_tick past
    ++ cond (l.checked && not (is_looking l.drive)) (Tick l.cycle late ∷ []) []
