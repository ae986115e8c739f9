-- What the phases of a node mean for the activation words: the targets it has yet to lower, the one
-- that it owes, and how far it is.
-- Source: PipeWire's documentation, "Graph Scheduling"; the phases are this project's.
use Rattle.std.specs.Prelude.{◌≡◌, ℕ, ◌+◌, ◌-◌, ◌<◌, ◌≤◌, Bool, true, false, cond, List, [], take, drop}
use Rattle.board_rule.specs.declared.view.Phase.{Phase}
use Rattle.board_rule.specs.declared.view.Phase.TheVariants.{Idle, Awake, StartDrawn, Running, Done, FinishDrawn, Telling}
use Rattle.board_rule.specs.declared.view.DriverPhase.{DriverPhase}
use Rattle.board_rule.specs.declared.view.DriverPhase.TheVariants as drives
pub use Rattle.board_rule.specs.events.Drawn.{phase_drawn, drive_drawn}

-- of the targets ts, of which the first i are lowered, the one that is owed its trigger
abbrev pub owed_of : List ℕ → ℕ → Bool → List ℕ
owed_of ts i true = take 1 (drop (i - 1) ts)
owed_of ts i false = []

-- a follower with the targets ts; `now` says that its next cycle is the driver's
abbrev pub phase_rest : List ℕ → Bool → Phase → List ℕ
phase_rest ts now (Telling i owes) = drop i ts
phase_rest ts now _ = cond now ts []

abbrev pub phase_owing : List ℕ → Phase → List ℕ
phase_owing ts (Telling i owes) = owed_of ts i owes
phase_owing ts _ = []

-- 0: not yet woken in the driver's cycle. 1: awake. 2: FINISHED is stored
abbrev pub phase_stage : Bool → Phase → ℕ
phase_stage now Idle = cond now 0 2
phase_stage now Awake = 1
phase_stage now StartDrawn = 1
phase_stage now Running = 1
phase_stage now Done = 2
phase_stage now FinishDrawn = 2
phase_stage now (Telling i owes) = 2

-- the first i of n targets are lowered; one of them is owed, or one is left
abbrev pub IsLowered : ℕ → ℕ → Bool → Type 0
IsLowered n i true = (0 < i) × (i ≤ n)
IsLowered n i false = i < n

-- a follower with n targets is in the driver's cycle c, or idle in the one after it
abbrev pub PhaseOk : ℕ → ℕ → ℕ → Phase → Type 0
PhaseOk n c next Idle = (c ≤ next) × (next ≤ c + 1)
PhaseOk n c next (Telling i owes) = (next ≡ c) × IsLowered n i owes
PhaseOk n c next _ = next ≡ c

-- the driver, with the targets ts
abbrev pub drive_rest : List ℕ → DriverPhase → List ℕ
drive_rest ts (drives.Kick i owes) = drop i ts
drive_rest ts _ = []

abbrev pub drive_owing : List ℕ → DriverPhase → List ℕ
drive_owing ts (drives.Kick i owes) = owed_of ts i owes
drive_owing ts _ = []

abbrev pub drive_stage : DriverPhase → ℕ
drive_stage drives.Awake = 1
drive_stage drives.StartDrawn = 1
drive_stage drives.Running = 1
drive_stage drives.Done = 2
drive_stage drives.FinishDrawn = 2
drive_stage drives.FinishStored = 2
drive_stage drives.EndDrawn = 2
drive_stage _ = 0

-- the driver's seat has not yet reset all nodes
abbrev pub is_resetting : DriverPhase → Bool
is_resetting drives.Between = true
is_resetting drives.BeginDrawn = true
is_resetting (drives.Reset i) = true
is_resetting (drives.Half i) = true
is_resetting _ = false

abbrev pub is_between : DriverPhase → Bool
is_between drives.Between = true
is_between _ = false
