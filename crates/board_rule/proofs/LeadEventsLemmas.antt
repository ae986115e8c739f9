-- Laws of `specs/EventRule.antt`: the tickets and events of the driver's seat, and its checks.
use Rattle.std.proofs.Common.{◌≡◌, ℕ, suc, ◌+◌, ◌<◌, ◌≤◌, true, false, true≢false, cond, eqb, List, [], ◌∷◌, ◌++◌, length}
use Rattle.std.proofs.Common.{set, get_or, refl, sym, ap, ◌∙◌, subst, arith, get_or-set_same, append-nil}
use Rattle.std.specs.Prelude.{filter}
use Rattle.pw_graph.specs.History.{is_tick}
use Rattle.pw_graph.specs.declared.event.Event.{Event}
use Rattle.pw_graph.specs.declared.event.Event.TheVariants.{Start, Finish, Tick}
use Rattle.pw_graph.specs.Layout.{event_count}
use Rattle.board_rule.specs.declared.view.DriverPhase.TheVariants as drives
use Rattle.board_rule.specs.declared.view.NodeView.{NodeView}
use Rattle.board_rule.specs.declared.view.DriverView.{DriverView}
use Rattle.board_rule.specs.declared.view.Found.{Found}
use Rattle.board_rule.specs.Layout.{BoardLayout, IsSound}
use Rattle.board_rule.specs.activation.Phases.{is_resetting}
use Rattle.board_rule.specs.View.{Whole, with_lead}
use Rattle.board_rule.specs.events.Marks.{phase_started, phase_finished, phase_holds, drive_started, drive_finished, drive_holds, drive_tells}
use Rattle.board_rule.specs.events.Marks.{drive_sees, is_begun, is_ending}
use Rattle.board_rule.specs.activation.ActivationRule.{Activations, progress}
use Rattle.board_rule.specs.events.EventRule.{Events, marks, records, lead_drawn}
use Rattle.board_rule.proofs.events.TickLemmas.{ticks_stay, ticks_past, none_checked}
use Rattle.board_rule.proofs.events.DrawLemmas.{Logs, StartsAt, FinishesAt, starts_drawn, finishes_drawn}
use Rattle.board_rule.proofs.buffers.StoreLemmas.{SameNodes, begin_drawn, end_drawn, tick_drawn}
use Rattle.board_rule.proofs.events.MarkLemmas.{words_drawn, lead_here, lead_else}
use Rattle.board_rule.proofs.events.TicketLemmas.{logs_of, Counted, count_lead}
use Rattle.board_rule.proofs.events.EventLemmas.{done_before}

module _ (p : BoardLayout) (g : Whole) (x : DriverView) (looks : List Found) (inside : List Event) (late : ℕ) where
  -- the whole after a step of the driver's seat in the same cycle
  abbrev pub after : Whole
  after = record (with_lead g (record x { cycle = g.lead.cycle })) { inside = inside; late = late; looks = looks }

  pub lead_nodes : drive_started x.drive ≡ drive_started g.lead.drive → drive_finished x.drive ≡ drive_finished g.lead.drive
      → x.start ≡ g.lead.start → x.finish ≡ g.lead.finish → SameNodes (marks p g) (marks p after)
  lead_nodes started finished start finish = record {
    started = λ n. ap (λ k. cond (eqb n p.driver) k (cond (eqb (g.nodes n).next g.lead.cycle) (phase_started (g.nodes n).phase) 1)) started;
    finished = λ n. ap (λ k. cond (eqb n p.driver) k (cond (eqb (g.nodes n).next g.lead.cycle) (phase_finished (g.nodes n).phase) 1))
        finished;
    start = λ n. ap (λ k. cond (eqb n p.driver) k (g.nodes n).start) start;
    finish = λ n. ap (λ k. cond (eqb n p.driver) k (g.nodes n).finish) finish;
  }

  pub lead_holds : drive_holds (record x { cycle = g.lead.cycle }) x.drive ≡ drive_holds g.lead g.lead.drive → (n : ℕ)
      → (marks p after).holds n ≡ (marks p g).holds n
  lead_holds e n = ap (λ k. cond (eqb n p.driver) k (phase_holds (g.nodes n) (g.nodes n).phase)) e

module _ (p : BoardLayout) where
  module _ (g : Whole) (ws : List ℕ) (sound : IsSound p) (a : Activations p g ws) (e : Events p g ws) (wide : 0 < length ws)
      (room : suc (get_or ws 0 0) ≤ event_count p.shape) where
    abbrev t : ℕ
    t = get_or ws 0 0

    counted : (x : DriverView) → lead_drawn g.lead + 1 ≤ lead_drawn x → Counted p (with_lead g x) (get_or (set ws 0 (suc t)) 0 0)
    counted x more = let b = count_lead p g t 1 x more e.count in let w = get_or-set_same ws 0 (suc t) 0 wide in omega arith

    abbrev began : DriverView
    began = record g.lead { drive = drives.BeginDrawn; ticket = t }

    pub events_begin : g.lead.drive ≡ drives.Between → lead_drawn g.lead + 1 ≤ lead_drawn began
        → Events p (record (with_lead g began) { inside = g.inside; looks = g.looks }) (set ws 0 (suc t))
    events_begin d more = let k = e.tickets in let drawn = k.drawn in
        let logs = subst (Logs p g.lead.cycle g.late g.past g.inside (marks p (after p g began g.looks g.inside g.late)))
        (sym (words_drawn p ws (suc t) wide))
        (begin_drawn p g.lead.cycle g.late g.past g.inside (marks p g) (marks p (after p g began g.looks g.inside g.late)) (records p ws)
        (logs_of p g ws e)
        (lead_nodes p g began g.looks g.inside g.late (sym (ap drive_started d)) (sym (ap drive_finished d)) refl refl) t
        (ap is_begun d, ap is_ending d) (refl, refl) (e.fresh (ap is_begun d)) refl (sym (ap (drive_sees g.looks) d))
        (lead_holds p g began g.looks g.inside g.late (sym (ap (drive_holds g.lead) d))) (ap (drive_tells g.lead g.late) d) refl refl
        (omega arith)) in record {
          count = counted began more;
          checks = e.checks;
          lates = ticks_stay p g e.lates drives.Between began d refl refl refl refl;
          checking = λ z. absurd (true≢false (sym z));
          fresh = λ z. absurd (true≢false z);
          tickets = logs.tickets;
          earlier = logs.earlier;
          inside = logs.inside;
        }

    abbrev ended : DriverView
    ended = record g.lead { drive = drives.EndDrawn; ticket = t }

    pub events_end : g.lead.drive ≡ drives.FinishStored → lead_drawn g.lead + 1 ≤ lead_drawn ended
        → Events p (record (with_lead g ended) { inside = g.inside; looks = g.looks }) (set ws 0 (suc t))
    events_end d more = let k = e.tickets in let drawn = k.drawn in
        let logs = subst (Logs p g.lead.cycle g.late g.past g.inside (marks p (after p g ended g.looks g.inside g.late)))
        (sym (words_drawn p ws (suc t) wide))
        (end_drawn p g.lead.cycle g.late g.past g.inside (marks p g) (marks p (after p g ended g.looks g.inside g.late)) (records p ws)
        (logs_of p g ws e)
        (lead_nodes p g ended g.looks g.inside g.late (sym (ap drive_started d)) (sym (ap drive_finished d)) refl refl) t
        (ap is_begun d, ap is_ending d) (refl, refl) refl (sym (ap (drive_sees g.looks) d))
        (lead_holds p g ended g.looks g.inside g.late (sym (ap (drive_holds g.lead) d))) (ap (drive_tells g.lead g.late) d) refl refl
        (omega arith)) in record {
          count = counted ended more;
          checks = e.checks;
          lates = ticks_stay p g e.lates drives.FinishStored ended d refl refl refl refl;
          checking = λ z. absurd (true≢false (sym z));
          fresh = λ z. absurd (true≢false z);
          tickets = logs.tickets;
          earlier = logs.earlier;
          inside = logs.inside;
        }

    abbrev ticked : DriverView
    ticked = record g.lead { drive = drives.Checking; checked = true; checks = g.lead.checks + 1; ticket = t }

    pub events_tick : g.lead.drive ≡ drives.Waiting → g.lead.checked ≡ false → lead_drawn g.lead + 1 ≤ lead_drawn ticked
        → Events p (record (with_lead g ticked) { inside = g.inside ++ Tick g.lead.cycle g.late ∷ []; looks = [] }) (set ws 0 (suc t))
    events_tick d unchecked more = let k = e.tickets in let drawn = k.drawn in
        let xs : List Event = g.inside ++ Tick g.lead.cycle g.late ∷ [] in
        let logs = subst (Logs p g.lead.cycle g.late g.past xs (marks p (after p g ticked [] xs g.late)))
        (sym (words_drawn p ws (suc t) wide))
        (tick_drawn p g.lead.cycle g.late g.past g.inside (marks p g) (marks p (after p g ticked [] xs g.late)) (records p ws)
        (logs_of p g ws e)
        (lead_nodes p g ticked [] xs g.late (sym (ap drive_started d)) (sym (ap drive_finished d)) refl refl) sound t
        (ap is_begun d, ap is_ending d) (refl, refl) unchecked refl refl
        (lead_here p g (drive_started g.lead.drive) (λ z. cond (eqb z.next g.lead.cycle) (phase_started z.phase) 1) ∙ ap drive_started d)
        (lead_holds p g ticked [] xs g.late (sym (ap (drive_holds g.lead) d))) (ap (drive_tells g.lead g.late) d) refl refl (omega arith))
        in record {
          count = counted ticked more;
          checks = let z = e.checks in let y : cond {A = ℕ} g.lead.checked 1 0 ≡ 0 = ap (λ b. cond {A = ℕ} b 1 0) unchecked in omega arith;
          lates = append-nil (filter is_tick g.past) ∙ ticks_past p g e.lates (none_checked p g e.lates unchecked);
          checking = λ _. refl;
          fresh = λ z. absurd (true≢false z);
          tickets = logs.tickets;
          earlier = logs.earlier;
          inside = logs.inside;
        }

    abbrev starting : DriverView
    starting = record g.lead { drive = drives.StartDrawn; start = t }

    pub events_lead_start : g.lead.drive ≡ drives.Awake → (is_resetting g.lead.drive ≡ true → ⊥) → (progress p g).stage p.driver ≡ 1
        → lead_drawn g.lead + 1 ≤ lead_drawn starting
        → Events p (record (with_lead g starting) { inside = g.inside ++ Start g.lead.cycle (p.number p.driver) ∷ []; looks = g.looks })
        (set ws 0 (suc t))
    events_lead_start d runs_on stage more = let k = e.tickets in let drawn = k.drawn in
        let xs : List Event = g.inside ++ Start g.lead.cycle (p.number p.driver) ∷ [] in
        let S : NodeView → ℕ = λ z. cond (eqb z.next g.lead.cycle) (phase_started z.phase) 1 in let F : NodeView
        → ℕ = λ z. cond (eqb z.next g.lead.cycle) (phase_finished z.phase) 1 in
        let at : StartsAt p.driver t (marks p g) (marks p (after p g starting g.looks xs g.late)) = record {
          same = record {
            tells = sym (ap (drive_tells g.lead g.late) d);
            begun = ap is_begun d;
            goes_on = refl;
            unended = ap is_ending d;
            stays_unended = refl;
            checked = refl;
            sees = sym (ap (drive_sees g.looks) d);
          };
          was = lead_here p g (drive_started g.lead.drive) S ∙ ap drive_started d;
          now = lead_here p g 1 S;
          else = λ n q. lead_else p g 1 (drive_started g.lead.drive) S n q;
          finished = λ n. ap (λ k. cond (eqb n p.driver) k (F (g.nodes n))) (sym (ap drive_finished d));
          start = lead_here p g t (λ z. z.start);
          start_else = λ n q. lead_else p g t g.lead.start (λ z. z.start) n q;
          finish = λ n. refl;
          held = lead_here p g (drive_holds g.lead g.lead.drive) (λ z. phase_holds z z.phase) ∙ ap (drive_holds g.lead) d;
          holds = lead_here p g (t ∷ []) (λ z. phase_holds z z.phase);
          holds_else = λ n q. lead_else p g (t ∷ []) (drive_holds g.lead g.lead.drive) (λ z. phase_holds z z.phase) n q;
        } in
        let logs = subst (Logs p g.lead.cycle g.late g.past xs (marks p (after p g starting g.looks xs g.late)))
        (sym (words_drawn p ws (suc t) wide))
        (starts_drawn p sound g.lead.cycle g.late g.past g.inside (marks p g) (marks p (after p g starting g.looks xs g.late))
        (records p ws) (logs_of p g ws e) p.driver t sound.driver_in at refl (omega arith)
        (done_before p g ws p.driver sound a runs_on sound.driver_in stage)) in record {
          count = counted starting more;
          checks = e.checks;
          lates = ticks_stay p g e.lates drives.Awake starting d refl refl refl refl;
          checking = λ z. absurd (true≢false (sym z));
          fresh = λ z. absurd (true≢false z);
          tickets = logs.tickets;
          earlier = logs.earlier;
          inside = logs.inside;
        }

    abbrev finishing : DriverView
    finishing = record g.lead { drive = drives.FinishDrawn; finish = t }

    pub events_lead_finish : g.lead.drive ≡ drives.Done → lead_drawn g.lead + 1 ≤ lead_drawn finishing
        → Events p (record (with_lead g finishing) { inside = g.inside ++ Finish g.lead.cycle (p.number p.driver) ∷ []; looks = g.looks })
        (set ws 0 (suc t))
    events_lead_finish d more = let k = e.tickets in let drawn = k.drawn in
        let xs : List Event = g.inside ++ Finish g.lead.cycle (p.number p.driver) ∷ [] in
        let S : NodeView → ℕ = λ z. cond (eqb z.next g.lead.cycle) (phase_started z.phase) 1 in let F : NodeView
        → ℕ = λ z. cond (eqb z.next g.lead.cycle) (phase_finished z.phase) 1 in
        let at : FinishesAt p.driver t (marks p g) (marks p (after p g finishing g.looks xs g.late)) = record {
          same = record {
            tells = sym (ap (drive_tells g.lead g.late) d);
            begun = ap is_begun d;
            goes_on = refl;
            unended = ap is_ending d;
            stays_unended = refl;
            checked = refl;
            sees = sym (ap (drive_sees g.looks) d);
          };
          was = lead_here p g (drive_finished g.lead.drive) F ∙ ap drive_finished d;
          now = lead_here p g 1 F;
          else = λ n q. lead_else p g 1 (drive_finished g.lead.drive) F n q;
          begun = lead_here p g (drive_started g.lead.drive) S ∙ ap drive_started d;
          started = λ n. ap (λ k. cond (eqb n p.driver) k (S (g.nodes n))) (sym (ap drive_started d));
          finish = lead_here p g t (λ z. z.finish);
          finish_else = λ n q. lead_else p g t g.lead.finish (λ z. z.finish) n q;
          start = λ n. refl;
          held = lead_here p g (drive_holds g.lead g.lead.drive) (λ z. phase_holds z z.phase) ∙ ap (drive_holds g.lead) d;
          holds = lead_here p g (t ∷ []) (λ z. phase_holds z z.phase);
          holds_else = λ n q. lead_else p g (t ∷ []) (drive_holds g.lead g.lead.drive) (λ z. phase_holds z z.phase) n q;
        } in
        let logs = subst (Logs p g.lead.cycle g.late g.past xs (marks p (after p g finishing g.looks xs g.late)))
        (sym (words_drawn p ws (suc t) wide))
        (finishes_drawn p sound g.lead.cycle g.late g.past g.inside (marks p g) (marks p (after p g finishing g.looks xs g.late))
        (records p ws) (logs_of p g ws e) p.driver t sound.driver_in at refl (omega arith)) in record {
          count = counted finishing more;
          checks = e.checks;
          lates = ticks_stay p g e.lates drives.Done finishing d refl refl refl refl;
          checking = λ z. absurd (true≢false (sym z));
          fresh = λ z. absurd (true≢false z);
          tickets = logs.tickets;
          earlier = logs.earlier;
          inside = logs.inside;
        }
