-- Drawing a ticket: what it asks of the view of its seat, and the view after it; and what storing
-- its event asks of the phase. Nodes are indexes.
-- Source: this project's own.
use Rattle.std.specs.Prelude.{◌≡◌, ℕ, ◌+◌, Bool, true, false, []}
use Rattle.board_rule.specs.declared.view.Phase.{Phase}
use Rattle.board_rule.specs.declared.view.Phase.TheVariants.{Awake, StartDrawn, Done, FinishDrawn}
use Rattle.board_rule.specs.declared.view.DriverPhase.{DriverPhase}
use Rattle.board_rule.specs.declared.view.DriverPhase.TheVariants as drives
use Rattle.board_rule.specs.declared.view.NodeView.{NodeView}
use Rattle.board_rule.specs.declared.view.DriverView.{DriverView}
use Rattle.board_rule.specs.declared.view.Trail.{Trail}
use Rattle.board_rule.specs.declared.view.View.{View}
use Rattle.board_rule.specs.Layout.{BoardLayout}
use Rattle.board_rule.specs.View.{node_of, view_node, view_lead}
use Rattle.board_rule.specs.Steps.{HasNode, untold}

-- DRAWING A TICKET: for a Start or a Finish of the node; the driver's seat also for a Begin, an
-- End, and a Tick where the cycle has had no check
abbrev pub CanDraw : Phase → Type 0
CanDraw Awake = Unit {0}
CanDraw Done = Unit {0}
CanDraw _ = ⊥

abbrev pub CanDrawLead : Bool → DriverPhase → Type 0
CanDrawLead checked drives.Between = Unit {0}
CanDrawLead checked drives.Waiting = checked ≡ false
CanDrawLead checked drives.Awake = Unit {0}
CanDrawLead checked drives.Done = Unit {0}
CanDrawLead checked drives.FinishStored = Unit {0}
CanDrawLead checked _ = ⊥

abbrev pub Draws : Bool → BoardLayout → View → ℕ → Type 0
Draws true p v m = HasNode true p v m × CanDrawLead v.lead.checked v.lead.drive
Draws false p v m = HasNode false p v m × CanDraw (node_of v m).phase

abbrev pub node_draws : NodeView → ℕ → Phase → NodeView
node_draws x ticket Awake = record x { phase = StartDrawn; start = ticket }
node_draws x ticket Done = record x { phase = FinishDrawn; finish = ticket }
node_draws x ticket _ = x

abbrev pub lead_draws : DriverView → ℕ → DriverPhase → DriverView
lead_draws x ticket drives.Between = record x { drive = drives.BeginDrawn; ticket = ticket }
lead_draws x ticket drives.Waiting = record x
    { drive = drives.Checking; checked = true; checks = x.checks + 1; ticket = ticket }
lead_draws x ticket drives.Awake = record x { drive = drives.StartDrawn; start = ticket }
lead_draws x ticket drives.Done = record x { drive = drives.FinishDrawn; finish = ticket }
lead_draws x ticket drives.FinishStored = record x { drive = drives.EndDrawn; ticket = ticket }
lead_draws x ticket _ = x

-- a Begin forgets what the last begin or finish found, a Tick what the last check found
abbrev pub draw_trail : Trail → DriverPhase → Trail
draw_trail t drives.Between = untold t
draw_trail t drives.Waiting = record t { looks = [] }
draw_trail t _ = t

abbrev pub draws : Bool → View → ℕ → ℕ → View
draws true v m ticket = view_lead v (lead_draws v.lead ticket v.lead.drive)
    (draw_trail v.trail v.lead.drive)
draws false v m ticket = view_node v m (node_draws (node_of v m) ticket (node_of v m).phase) v.trail

-- STORING AN EVENT: its ticket is drawn, and for a Tick the late set is stored
abbrev pub CanStore : Phase → Type 0
CanStore StartDrawn = Unit {0}
CanStore FinishDrawn = Unit {0}
CanStore _ = ⊥

abbrev pub CanStoreLead : DriverPhase → Type 0
CanStoreLead drives.BeginDrawn = Unit {0}
CanStoreLead drives.LateStored = Unit {0}
CanStoreLead drives.StartDrawn = Unit {0}
CanStoreLead drives.FinishDrawn = Unit {0}
CanStoreLead drives.EndDrawn = Unit {0}
CanStoreLead _ = ⊥
