-- What the driver's seat keeps to step by, read off its view.
-- Source: this project's own; the phases are those of src/view.rt.
use Rattle.std.specs.Prelude.{ℕ, ◌+◌, Bool, true, false, cond, eqb}
use Rattle.pw_graph.specs.declared.event.Event.{Event}
use Rattle.pw_graph.specs.declared.event.Event.TheVariants.{Begin, Start, Finish, Tick, End}
use Rattle.board_rule.specs.declared.view.DriverPhase.{DriverPhase}
use Rattle.board_rule.specs.declared.view.DriverPhase.TheVariants as drives
use Rattle.board_rule.specs.declared.view.DriverView.{DriverView}
use Rattle.board_rule.specs.declared.lead.DriverProgress.{DriverProgress}
use Rattle.board_rule.specs.declared.lead.Due.{Due}
use Rattle.board_rule.specs.declared.lead.Due.TheVariants as dues

-- how many nodes are reset, or targets lowered
abbrev pub done_of : DriverPhase → ℕ
done_of (drives.Reset i) = i
done_of (drives.Half i) = i
done_of (drives.Kick i owes) = i
done_of _ = 0

-- the event whose ticket is drawn next, or held
abbrev pub due_of : DriverPhase → Due
due_of drives.Between = dues.Begin
due_of drives.BeginDrawn = dues.Begin
due_of drives.Awake = dues.Start
due_of drives.StartDrawn = dues.Start
due_of drives.Running = dues.Finish
due_of drives.Done = dues.Finish
due_of drives.FinishDrawn = dues.Finish
due_of drives.FinishStored = dues.End
due_of drives.EndDrawn = dues.End
due_of _ = dues.Tick

abbrev pub lead_progress_of : DriverView → DriverProgress
lead_progress_of x = record {
  cycle = x.cycle;
  done = done_of x.drive;
  due = due_of x.drive;
  ticket = x.ticket;
  start = x.start;
  finish = x.finish;
}

-- the first i of n targets are lowered, and the last of these may be owed; the first i of n nodes
-- are reset
abbrev pub told_so_far : ℕ → ℕ → Bool → ℕ
told_so_far n i owes = cond owes i (cond (eqb i n) 0 i)

abbrev pub reset_so_far : ℕ → ℕ → ℕ
reset_so_far n i = cond (eqb i n) 0 i

-- a ticket is drawn; the one that is held; its event; that event is stored
abbrev pub lead_drawn : DriverProgress → Due → ℕ → DriverProgress
lead_drawn x dues.Start ticket = record x { start = ticket }
lead_drawn x dues.Finish ticket = record x { finish = ticket }
lead_drawn x _ ticket = record x { ticket = ticket }

abbrev pub due_ticket : DriverProgress → Due → ℕ
due_ticket x dues.Start = x.start
due_ticket x dues.Finish = x.finish
due_ticket x _ = x.ticket

abbrev pub due_event : Due → ℕ → ℕ → Event
due_event dues.Begin cycle node = Begin cycle
due_event dues.Tick cycle node = Tick cycle 0
due_event dues.Start cycle node = Start cycle node
due_event dues.Finish cycle node = Finish cycle node
due_event dues.End cycle node = End cycle

abbrev pub lead_stored : DriverProgress → Due → DriverProgress
lead_stored x dues.Begin = record x { due = dues.Tick }
lead_stored x dues.Tick = x
lead_stored x dues.Start = record x { due = dues.Finish }
lead_stored x dues.Finish = record x { due = dues.End }
lead_stored x dues.End = record x { cycle = x.cycle + 1; due = dues.Begin }

abbrev pub is_begin : Due → Bool
is_begin dues.Begin = true
is_begin _ = false
