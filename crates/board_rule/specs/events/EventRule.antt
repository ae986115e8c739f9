-- The event rule: between any two steps each drawn ticket is held by a phase or its event is
-- stored, and the events so far, in the order of their tickets, are legal.
-- Source: this project's own.
use Rattle.std.specs.Prelude.{◌≡◌, ℕ, ◌+◌, ◌*◌, ◌≤◌, true, false, cond, eqb, List, [], ◌++◌, length, slice_index, count_by}
use Rattle.board_rule.specs.declared.view.NodeView.{NodeView}
use Rattle.board_rule.specs.declared.view.DriverView.{DriverView}
use Rattle.pw_graph.specs.History.{is_tick}
use Rattle.pw_graph.specs.Layout.{ticket_place, event_place, late_place}
use Rattle.board_rule.specs.Layout.{BoardLayout, nodes, first}
use Rattle.board_rule.specs.activation.Phases.{is_between, phase_drawn, drive_drawn}
use Rattle.board_rule.specs.Sums.{total}
use Rattle.board_rule.specs.View.{Whole}
use Rattle.board_rule.specs.events.Marks.{phase_started, phase_finished, phase_holds, drive_started, drive_finished, drive_holds, drive_tells}
use Rattle.board_rule.specs.events.Marks.{drive_sees, is_begun, is_ending, is_checking}
use Rattle.board_rule.specs.events.LateSets.{stored_ticks}
pub use Rattle.board_rule.specs.events.Logged.{IsSoFar, IsHeld, Tickets, Earlier, Inside}
pub use Rattle.board_rule.specs.events.Records.{Records, Counts, Marks, so_far}

-- two tickets for each cycle of a follower, and at most five for each of the driver's seat, counted
-- from the cycle 0
abbrev pub node_drawn : NodeView → ℕ
node_drawn x = 2 * x.next + phase_drawn x.phase

abbrev pub lead_drawn : DriverView → ℕ
lead_drawn x = 5 * x.cycle + cond (is_between x.drive) 0 (drive_drawn x.drive + cond x.checked 1 0)

module _ (p : BoardLayout) where
  abbrev pub drawn : Whole → ℕ → ℕ
  drawn g n = cond (eqb n p.driver) 0 (node_drawn (g.nodes n))

  abbrev pub drawn_before : ℕ → ℕ
  drawn_before n = cond (eqb n p.driver) 0 (2 * first p)

  -- what the phases say of the driver's cycle; a follower that has ended it has drawn both
  abbrev pub counts : Whole → Counts
  counts g = record {
    started = λ n. cond (eqb n p.driver) (drive_started g.lead.drive)
        (cond (eqb (g.nodes n).next g.lead.cycle) (phase_started (g.nodes n).phase) 1);
    finished = λ n. cond (eqb n p.driver) (drive_finished g.lead.drive)
        (cond (eqb (g.nodes n).next g.lead.cycle) (phase_finished (g.nodes n).phase) 1);
    checked = g.lead.checked;
    sees = drive_sees g.looks g.lead.drive;
  }

  abbrev pub marks : Whole → Marks
  marks g = record {
    counts = counts g;
    start = λ n. cond (eqb n p.driver) g.lead.start (g.nodes n).start;
    finish = λ n. cond (eqb n p.driver) g.lead.finish (g.nodes n).finish;
    holds = λ n. cond (eqb n p.driver) (drive_holds g.lead g.lead.drive)
        (phase_holds (g.nodes n) (g.nodes n).phase);
    tells = drive_tells g.lead g.late g.lead.drive;
    begun = is_begun g.lead.drive;
    ending = is_ending g.lead.drive;
  }

  abbrev pub records : List ℕ → Records
  records words = record {
    ticket = slice_index words ticket_place;
    event = λ t. slice_index words (event_place p.shape t);
    late = λ k. slice_index words (late_place p.shape k);
  }

  -- EVENT RULE. `count`: there are no more tickets than the phases say; `checks`: a Tick for each
  -- check that was begun; `lates`: the driver's seat keeps those whose late set is stored; `fresh`:
  -- nothing before Begin
  pub record Events (g : Whole) (words : List ℕ) : Type 0 where
    pub count : slice_index words ticket_place + (total drawn_before (nodes p) + 5 * first p)
        ≤ total (drawn g)
        (nodes p) + lead_drawn g.lead
    pub checks : count_by is_tick g.past + cond g.lead.checked 1 0 ≡ g.lead.checks
    pub lates : stored_ticks g.past g.lead g.late ≡ g.lead.lates
    pub checking : is_checking g.lead.drive ≡ true → g.lead.checked ≡ true
    pub fresh : is_begun g.lead.drive ≡ false → g.inside ≡ []
    pub tickets : Tickets p g.lead.cycle (length g.past) (marks g)
        (g.past ++ so_far (marks g) g.lead.cycle g.inside)
        (records words)
    pub earlier : Earlier p g.lead.cycle g.late g.past (records words)
    pub inside : Inside p g.lead.cycle g.late (counts g) g.inside
