-- How many tickets a phase says are drawn in its cycle.
-- Source: this project's own; the phases are those of src/view.rt.
use Rattle.std.specs.Prelude.{ℕ}
use Rattle.board_rule.specs.declared.view.Phase.{Phase}
use Rattle.board_rule.specs.declared.view.Phase.TheVariants.{Idle, Awake, StartDrawn, Running, Done, FinishDrawn, Telling}
use Rattle.board_rule.specs.declared.view.DriverPhase.{DriverPhase}
use Rattle.board_rule.specs.declared.view.DriverPhase.TheVariants as drives

-- how many tickets a follower has drawn in its cycle
abbrev pub phase_drawn : Phase → ℕ
phase_drawn Idle = 0
phase_drawn Awake = 0
phase_drawn StartDrawn = 1
phase_drawn Running = 1
phase_drawn Done = 1
phase_drawn FinishDrawn = 2
phase_drawn (Telling i owes) = 2

-- how many the driver's seat has drawn in its cycle, but for that of a Tick
abbrev pub drive_drawn : DriverPhase → ℕ
drive_drawn drives.Between = 0
drive_drawn drives.StartDrawn = 2
drive_drawn drives.Running = 2
drive_drawn drives.Done = 2
drive_drawn drives.FinishDrawn = 3
drive_drawn drives.FinishStored = 3
drive_drawn drives.EndDrawn = 4
drive_drawn _ = 1
