-- What the event rule reads of the phases: which tickets of the driver's cycle are drawn, and which
-- are held: drawn, and their events not yet stored.
-- Source: this project's own; the phases are those of src/view.rt.
use Rattle.std.specs.Prelude.{ℕ, Bool, true, false, List, [], ◌∷◌}
use Rattle.pw_graph.specs.declared.event.Event.{Event}
use Rattle.pw_graph.specs.declared.event.Event.TheVariants.{Begin, Tick, End}
use Rattle.board_rule.specs.declared.view.Phase.{Phase}
use Rattle.board_rule.specs.declared.view.Phase.TheVariants.{Idle, Awake, StartDrawn, FinishDrawn, Telling}
use Rattle.board_rule.specs.declared.view.DriverPhase.{DriverPhase}
use Rattle.board_rule.specs.declared.view.DriverPhase.TheVariants as drives
use Rattle.board_rule.specs.declared.view.NodeView.{NodeView}
use Rattle.board_rule.specs.declared.view.DriverView.{DriverView}
use Rattle.board_rule.specs.declared.view.Found.{Found}

-- how many Starts and Finishes a follower has drawn in its cycle, and the ticket that it holds
abbrev pub phase_started : Phase → ℕ
phase_started Idle = 0
phase_started Awake = 0
phase_started _ = 1

abbrev pub phase_finished : Phase → ℕ
phase_finished FinishDrawn = 1
phase_finished (Telling i owes) = 1
phase_finished _ = 0

abbrev pub phase_holds : NodeView → Phase → List ℕ
phase_holds x StartDrawn = x.start ∷ []
phase_holds x FinishDrawn = x.finish ∷ []
phase_holds x _ = []

-- the same of the driver's node
abbrev pub drive_started : DriverPhase → ℕ
drive_started drives.StartDrawn = 1
drive_started drives.Running = 1
drive_started drives.Done = 1
drive_started drives.FinishDrawn = 1
drive_started drives.FinishStored = 1
drive_started drives.EndDrawn = 1
drive_started _ = 0

abbrev pub drive_finished : DriverPhase → ℕ
drive_finished drives.FinishDrawn = 1
drive_finished drives.FinishStored = 1
drive_finished drives.EndDrawn = 1
drive_finished _ = 0

abbrev pub drive_holds : DriverView → DriverPhase → List ℕ
drive_holds x drives.StartDrawn = x.start ∷ []
drive_holds x drives.FinishDrawn = x.finish ∷ []
drive_holds x _ = []

-- the ticket of a Begin, a Tick or an End that the driver's seat holds, with its event
abbrev pub drive_tells : DriverView → ℕ → DriverPhase → List (ℕ × Event)
drive_tells x late drives.BeginDrawn = (x.ticket, Begin x.cycle) ∷ []
drive_tells x late drives.Checking = (x.ticket, Tick x.cycle late) ∷ []
drive_tells x late drives.LateStored = (x.ticket, Tick x.cycle late) ∷ []
drive_tells x late drives.EndDrawn = (x.ticket, End x.cycle) ∷ []
drive_tells x late _ = []

-- Begin of the driver's cycle is drawn, and its End
abbrev pub is_begun : DriverPhase → Bool
is_begun drives.Between = false
is_begun _ = true

abbrev pub is_ending : DriverPhase → Bool
is_ending drives.EndDrawn = true
is_ending _ = false

-- the ticket of a Tick is drawn, and its event not yet stored
abbrev pub is_checking : DriverPhase → Bool
is_checking drives.Checking = true
is_checking drives.LateStored = true
is_checking _ = false

-- what the check that is under way has loaded
abbrev pub drive_sees : List Found → DriverPhase → List Found
drive_sees looks drives.Checking = looks
drive_sees looks _ = []
