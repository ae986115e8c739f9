-- What the calls of the driver's seat on a whole cycle ask of its view, and the view after them.
-- Nodes are indexes.
-- Source: PipeWire's documentation, "Graph Scheduling"; the calls are this project's.
use Rattle.std.specs.Prelude.{◌≡◌, ℕ, zero, suc, ◌+◌, ◌<◌, true, false, cond, eqb, List, [], ◌∷◌, ◌++◌, map, reverse}
use Rattle.board_rule.specs.declared.view.DriverPhase.TheVariants as drives
use Rattle.board_rule.specs.declared.view.View.{View}
use Rattle.pw_graph.specs.declared.event.Event.TheVariants.{Tick}
use Rattle.pw_graph.specs.Layout.{event_count}
use Rattle.board_rule.specs.Layout.{BoardLayout, nodes}
use Rattle.board_rule.specs.View.{view_lead}
use Rattle.board_rule.specs.Steps.{untold, driven, reset_of, reset_to}
use Rattle.board_rule.specs.events.EventSteps.{late_of}

-- BEGIN: the event is stored, all nodes are reset, all targets are lowered
abbrev pub begin_stored : View → ℕ → View
begin_stored v ticket = view_lead v (record v.lead { drive = drives.Reset 0; ticket = ticket })
    (untold v.trail)

abbrev pub reset_one : BoardLayout → View → View
reset_one p v = driven v (reset_to (nodes p) (reset_of v.lead.drive + 1)) v.trail

abbrev pub all_reset : View → View
all_reset v = driven v (drives.Kick 0 false) v.trail

pub record HasBegun (p : BoardLayout) (v w : View) : Type 0 where
  pub ticket : ℕ
  pub drawn : ticket < event_count p.shape
  pub told : map (λ f. f.node) w.trail.told ≡ reverse (map p.number (p.targets p.driver))
  pub is : w ≡ view_lead v (record v.lead { drive = drives.Waiting; ticket = ticket })
      (record v.trail { told = w.trail.told })

-- END: the seat is between this cycle and the next
abbrev pub HasEnded : BoardLayout → View → View → Type 0
HasEnded p v w = (ticket : ℕ) × (ticket < event_count p.shape)
    × (w ≡ view_lead v (record v.lead {
      cycle = v.lead.cycle + 1;
      drive = drives.Between;
      checked = false;
      ticket = ticket;
    }) v.trail)

-- A CHECK: the status word of each follower is loaded once, ascending, and the seat remembers each,
-- newest first
abbrev pub followers : BoardLayout → ℕ → List ℕ
followers p zero = []
followers p (suc k) = cond (eqb k p.driver) (followers p k) (p.number k ∷ followers p k)

pub record HasChecked (p : BoardLayout) (v : View) (late : ℕ) (w : View) : Type 0 where
  pub ticket : ℕ
  pub drawn : ticket < event_count p.shape
  pub looks : map (λ f. f.node) w.trail.looks ≡ followers p (nodes p)
  pub late_is : late ≡ late_of v.lead.cycle w.trail.looks
  pub is : w ≡ view_lead v (record v.lead {
    checked = true;
    checks = v.lead.checks + 1;
    lates = v.lead.lates ++ Tick v.lead.cycle late ∷ [];
    ticket = ticket;
  }) (record v.trail { looks = w.trail.looks })
