-- How many advances a node has left at most in its cycle, by its phase: a number that each lowers.
-- Source: PipeWire's documentation, "Graph Scheduling"; the counts are this project's.
use Rattle.std.specs.Prelude.{ℕ, ◌+◌, ◌-◌, ◌*◌, Bool, true, false, cond}
use Rattle.board_rule.specs.declared.view.Phase.{Phase}
use Rattle.board_rule.specs.declared.view.Phase.TheVariants.{Idle, Awake, StartDrawn, Running, Done, FinishDrawn, Telling}
use Rattle.board_rule.specs.declared.view.DriverPhase.{DriverPhase}
use Rattle.board_rule.specs.declared.view.DriverPhase.TheVariants as drives

-- of t targets the first i are lowered: each that is left may be lowered and triggered
abbrev pub tell_left : ℕ → ℕ → Bool → ℕ
tell_left t i true = 2 * (t - i) + 1
tell_left t i false = 2 * (t - i)

-- a follower with t targets, in a cycle, and in this cycle
abbrev pub node_steps : ℕ → ℕ
node_steps t = 2 * t + 6

abbrev pub phase_left : ℕ → Phase → ℕ
phase_left t Idle = 0
phase_left t Awake = 2 * t + 5
phase_left t StartDrawn = 2 * t + 4
phase_left t Running = 2 * t + 3
phase_left t Done = 2 * t + 2
phase_left t FinishDrawn = 2 * t + 1
phase_left t (Telling i owes) = tell_left t i owes

-- in the cycles from `next` to the one before `last`
abbrev pub cycles_left : ℕ → ℕ → ℕ → Phase → ℕ
cycles_left last t next Idle = (last - next) * node_steps t
cycles_left last t next f = (last - (next + 1)) * node_steps t + phase_left t f

-- the driver's seat, with n nodes and t targets, in a cycle, and in this cycle, of whose check
-- `unseen` loads are left
abbrev pub drive_steps : ℕ → ℕ → ℕ
drive_steps n t = 3 * n + 2 * t + 14

abbrev pub drive_left : ℕ → ℕ → ℕ → Bool → DriverPhase → ℕ
drive_left n t unseen checked drives.Between = 0
drive_left n t unseen checked drives.BeginDrawn = 3 * n + 2 * t + 13
drive_left n t unseen checked (drives.Reset i) = n + 2 * t + 12 + 2 * (n - i)
drive_left n t unseen checked (drives.Half i) = n + 2 * t + 11 + 2 * (n - i)
drive_left n t unseen checked (drives.Kick i owes) = n + 11 + tell_left t i owes
drive_left n t unseen checked drives.Waiting = cond checked 8 (n + 11)
drive_left n t unseen checked drives.Checking = unseen + 10
drive_left n t unseen checked drives.LateStored = 9
drive_left n t unseen checked drives.Awake = 7
drive_left n t unseen checked drives.StartDrawn = 6
drive_left n t unseen checked drives.Running = 5
drive_left n t unseen checked drives.Done = 4
drive_left n t unseen checked drives.FinishDrawn = 3
drive_left n t unseen checked drives.FinishStored = 2
drive_left n t unseen checked drives.EndDrawn = 1

abbrev pub turns_left : ℕ → ℕ → ℕ → ℕ → Bool → ℕ → DriverPhase → ℕ
turns_left last n t unseen checked cycle drives.Between = (last - cycle) * drive_steps n t
turns_left last n t unseen checked cycle d = (last - (cycle + 1)) * drive_steps n t
    + drive_left n t unseen checked d
