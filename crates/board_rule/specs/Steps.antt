-- The kinds of step: what each asks of the view of its seat, and the view after it. Nodes are
-- indexes; `is_driver` is true for the driver's seat.
-- Source: PipeWire's documentation, "Graph Scheduling"; the kinds are this project's.
use Rattle.std.specs.Prelude.{◌≡◌, ℕ, suc, ◌<◌, true, false, cond, eqb}
use Rattle.board_rule.specs.declared.view.DriverPhase.{DriverPhase}
use Rattle.board_rule.specs.declared.view.DriverPhase.TheVariants as drives
use Rattle.board_rule.specs.declared.view.View.{View}
use Rattle.board_rule.specs.Layout.{BoardLayout, nodes}
pub use Rattle.board_rule.specs.activation.SeatNodes.{Has, Owns, cycle_of, IsCycle, HasNode, IsMember, phased, driven}
pub use Rattle.board_rule.specs.activation.TellingSteps.{CanTell, CanKick, lowered_of, taken_of, taken, Lowers, settled, kicked, settles, told_trail}
pub use Rattle.board_rule.specs.activation.TellingSteps.{target_of, lowered, Indebted, KickIndebted, Triggers, triggered}
pub use Rattle.board_rule.specs.activation.WorkSteps.{IsAsleep, Claims, woken, tried, claimed, IsRunning, IsGivenOn, IsReadyToFinish, untold, finished}

-- THE RESET: the driver's seat stores the pending word and then the status word of the next node
abbrev pub reset_of : DriverPhase → ℕ
reset_of (drives.Reset i) = i
reset_of (drives.Half i) = i
reset_of _ = 0

abbrev pub reset_to : ℕ → ℕ → DriverPhase
reset_to n i = cond (eqb i n) (drives.Kick 0 false) (drives.Reset i)

abbrev pub StoresPending : BoardLayout → View → Type 0
StoresPending p v = HasNode true p v p.driver
    × (v.lead.drive ≡ drives.Reset (reset_of v.lead.drive))
    × (reset_of v.lead.drive < nodes p)

abbrev pub pending_stored : View → View
pending_stored v = driven v (drives.Half (reset_of v.lead.drive)) v.trail

abbrev pub StoresStatus : BoardLayout → View → Type 0
StoresStatus p v = HasNode true p v p.driver
    × (v.lead.drive ≡ drives.Half (reset_of v.lead.drive))
    × (reset_of v.lead.drive < nodes p)

abbrev pub status_stored : BoardLayout → View → View
status_stored p v = driven v (reset_to (nodes p) (suc (reset_of v.lead.drive))) v.trail
