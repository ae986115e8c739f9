-- The kinds of step on events: what each asks of the view of its seat, and the view after it. Nodes
-- are indexes.
-- Source: this project's own.
use Rattle.std.specs.Prelude.{ℕ, ◌+◌, ◌<◌, Bool, true, false}
use Rattle.board_rule.specs.declared.view.Phase.{Phase}
use Rattle.board_rule.specs.declared.view.Phase.TheVariants.{StartDrawn, Running, FinishDrawn, Telling}
use Rattle.board_rule.specs.declared.view.DriverPhase.{DriverPhase}
use Rattle.board_rule.specs.declared.view.DriverPhase.TheVariants as drives
use Rattle.board_rule.specs.declared.view.NodeView.{NodeView}
use Rattle.board_rule.specs.declared.view.DriverView.{DriverView}
use Rattle.board_rule.specs.declared.view.View.{View}
use Rattle.pw_graph.specs.declared.event.Event.{Event}
use Rattle.pw_graph.specs.declared.event.Event.TheVariants.{Begin, Start, Finish, Tick, End}
use Rattle.pw_graph.specs.Layout.{event_count}
use Rattle.board_rule.specs.Layout.{BoardLayout}
use Rattle.board_rule.specs.View.{node_of, view_node, view_lead}
use Rattle.board_rule.specs.Steps.{HasNode}
pub use Rattle.board_rule.specs.events.TicketSteps.{CanStore, CanStoreLead, CanDraw, CanDrawLead, Draws, node_draws, lead_draws, draw_trail, draws}
pub use Rattle.board_rule.specs.events.CheckSteps.{looked_at, Looks, looked, late_of, StoresLate, late_kept, late_stored}

-- STORING AN EVENT: the ticket that is held, and what `CanStore` and `CanStoreLead` ask
abbrev pub held : NodeView → Phase → ℕ
held x StartDrawn = x.start
held x _ = x.finish

abbrev pub held_lead : DriverView → DriverPhase → ℕ
held_lead x drives.StartDrawn = x.start
held_lead x drives.FinishDrawn = x.finish
held_lead x _ = x.ticket

abbrev pub ticket_of : Bool → View → ℕ → ℕ
ticket_of true v m = held_lead v.lead v.lead.drive
ticket_of false v m = held (node_of v m) (node_of v m).phase

abbrev pub StoresEvent : Bool → BoardLayout → View → ℕ → Type 0
StoresEvent true p v m = HasNode true p v m × CanStoreLead v.lead.drive
    × (ticket_of true v m < event_count p.shape)
StoresEvent false p v m = HasNode false p v m × CanStore (node_of v m).phase
    × (ticket_of false v m < event_count p.shape)

-- its event, where the node has the number n; the late set of a Tick is in a word of its own
abbrev pub node_tells : NodeView → ℕ → Phase → Event
node_tells x n StartDrawn = Start x.next n
node_tells x n _ = Finish x.next n

abbrev pub lead_tells : DriverView → ℕ → DriverPhase → Event
lead_tells x n drives.BeginDrawn = Begin x.cycle
lead_tells x n drives.LateStored = Tick x.cycle 0
lead_tells x n drives.StartDrawn = Start x.cycle n
lead_tells x n drives.FinishDrawn = Finish x.cycle n
lead_tells x n _ = End x.cycle

abbrev pub event_due : Bool → BoardLayout → View → ℕ → Event
event_due true p v m = lead_tells v.lead (p.number m) v.lead.drive
event_due false p v m = node_tells (node_of v m) (p.number m) (node_of v m).phase

abbrev pub stored_phase : Phase → Phase
stored_phase StartDrawn = Running
stored_phase FinishDrawn = Telling 0 false
stored_phase f = f

abbrev pub lead_stores : DriverView → DriverPhase → DriverView
lead_stores x drives.BeginDrawn = record x { drive = drives.Reset 0 }
lead_stores x drives.LateStored = record x { drive = drives.Waiting }
lead_stores x drives.StartDrawn = record x { drive = drives.Running }
lead_stores x drives.FinishDrawn = record x { drive = drives.FinishStored }
lead_stores x drives.EndDrawn = record x {
  cycle = x.cycle + 1;
  drive = drives.Between;
  checked = false;
}
lead_stores x _ = x

abbrev pub event_stored : Bool → View → ℕ → View
event_stored true v m = view_lead v (lead_stores v.lead v.lead.drive) v.trail
event_stored false v m = view_node v m
    (record (node_of v m) { phase = stored_phase (node_of v m).phase }) v.trail
