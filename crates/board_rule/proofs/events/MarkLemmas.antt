-- What a step changes of what the event rule reads of words and phases.
use Rattle.std.proofs.Common.{◌≡◌, ◌≢◌, ℕ, ◌+◌, ◌-◌, ◌<◌, ◌≤◌, ◌⊎◌, cond, eqb, List, length, set, refl, sym, ap}
use Rattle.std.proofs.Common.{◌∙◌, subst, arith, eq-eqb, ne_eqb, get_or-set_other, get_or-set_same}
use mathlib.Core.Logic.{dite}
use native.Mathlib.Decide.{ℕ_discrete}
use Rattle.std.proofs.lemmas.List.Elements.{All-contains}
use Rattle.pw_graph.specs.declared.event.Event.{Event}
use Rattle.pw_graph.specs.declared.event.Event.TheVariants.{Tick}
use Rattle.pw_graph.specs.EventWords.{event_cycle, event_node, event_word_of}
use Rattle.pw_graph.specs.Layout.{event_place, late_place}
use Rattle.board_rule.specs.declared.view.Phase.{Phase}
use Rattle.board_rule.specs.declared.view.DriverPhase.{DriverPhase}
use Rattle.board_rule.specs.declared.view.DriverPhase.TheVariants as drives
use Rattle.board_rule.specs.declared.view.NodeView.{NodeView}
use Rattle.board_rule.specs.declared.view.DriverView.{DriverView}
use Rattle.board_rule.specs.declared.view.Found.{Found}
use Rattle.board_rule.specs.Layout.{BoardLayout, nodes, first, last}
use Rattle.board_rule.specs.View.{Whole, put, with_node, with_lead}
use Rattle.board_rule.specs.events.Marks.{phase_started, phase_finished, phase_holds, drive_started, drive_finished, drive_holds, drive_tells}
use Rattle.board_rule.specs.events.Marks.{drive_sees, is_begun, is_ending, is_checking}
use Rattle.board_rule.specs.events.LateSets.{is_looking}
use Rattle.board_rule.specs.events.EventRule.{Records, Marks, IsHeld, marks, records}
use Rattle.board_rule.proofs.start.SeatLemmas.{put_here, put_else}
use Rattle.board_rule.proofs.events.DrawLemmas.{Logs}

-- only what the rule reads of the words counts
module _ (p : BoardLayout) where
  pub logs_from : (c late : ℕ) (past xs : List Event) (s : Marks) (r q : Records) → first p ≤ c → c ≤ last p → r.ticket ≡ q.ticket
      → r.event ≡ q.event → ((k : ℕ) → k < p.shape.cycles → q.late k ≡ r.late k) → Logs p c late past xs s r → Logs p c late past xs s q
  logs_from c late past xs s r q low high ticket event lates a = let k = a.tickets in let e = a.earlier in record {
    tickets = record {
      drawn = sym ticket ∙ k.drawn;
      stored = λ t x h. subst (λ (w : ℕ → ℕ). (w t ≡ event_word_of x) ⊎ ((w t ≡ 0) × IsHeld p s t)) event (k.stored t x h);
      unused = λ t h l. ap (λ (w : ℕ → ℕ). w t) (sym event) ∙ k.unused t h l;
      starts_kept = k.starts_kept;
      finishes_kept = k.finishes_kept;
      told_kept = k.told_kept;
    };
    earlier = record {
      legal = e.legal;
      before = e.before;
      lates = λ j x h. let b = All-contains (λ y. (first p ≤ event_cycle y) × (event_cycle y < c) × (event_node y ≤ 63)) past
          (Tick j x) e.before h in let b₀ = b.0 in let b₁ = b.1 in lates (j - first p) (omega arith) ∙ e.lates j x h;
      late_now = λ h. lates (c - first p) (omega arith) ∙ e.late_now h;
      late_later = λ j h l. lates (j - first p) (omega arith) ∙ e.late_later j h l;
    };
    inside = a.inside;
  }

  -- the words: an activation word, the ticket word, an event word and a late set are written
  module _ (ws : List ℕ) (x : ℕ) where
    pub words_quiet : (i : ℕ) → 0 < i → i ≤ nodes p + nodes p → records p (set ws i x) ≡ records p ws
    words_quiet i low high = λ j. record {
      ticket = get_or-set_other ws i 0 x 0 (λ z. omega arith) j;
      event = λ t. get_or-set_other ws i (event_place p.shape t) x 0 (λ z. omega arith) j;
      late = λ k. get_or-set_other ws i (late_place p.shape k) x 0 (λ z. omega arith) j;
    }

    pub words_drawn : 0 < length ws → records p (set ws 0 x) ≡ record (records p ws) { ticket = x }
    words_drawn h = λ j. record {
      ticket = get_or-set_same ws 0 x 0 h j;
      event = λ t. get_or-set_other ws 0 (event_place p.shape t) x 0 (λ z. omega arith) j;
      late = λ k. get_or-set_other ws 0 (late_place p.shape k) x 0 (λ z. omega arith) j;
    }

    put_path : (f g : ℕ → ℕ) (t y : ℕ) → g t ≡ y → ((n : ℕ) → n ≢ t → g n ≡ f n) → put f t y ≡ g
    put_path f g t y here else = λ j n. (dite (ℕ_discrete n t) (λ (q : n ≡ t). ap (put f t y) q ∙ put_here f t y ∙ sym (ap g q ∙ here))
        (λ q. put_else f t n y q ∙ sym (else n q))) j

    event_stays : (t : ℕ) → event_place p.shape t < length ws
        → put (records p ws).event t x ≡ (records p (set ws (event_place p.shape t) x)).event
    event_stays t h = put_path (records p ws).event (records p (set ws (event_place p.shape t) x)).event t x
        (get_or-set_same ws (event_place p.shape t) x 0 h)
        (λ n o. get_or-set_other ws (event_place p.shape t) (event_place p.shape n) x 0 (λ z. o (omega arith)))

    pub words_stored : (c late : ℕ) (past xs : List Event) (s : Marks) (t : ℕ) → first p ≤ c → c ≤ last p
        → event_place p.shape t < length ws → Logs p c late past xs s (record (records p ws) { event = put (records p ws).event t x })
        → Logs p c late past xs s (records p (set ws (event_place p.shape t) x))
    words_stored c late past xs s t low high h a = logs_from c late past xs s
        (record (records p ws) { event = put (records p ws).event t x }) (records p (set ws (event_place p.shape t) x)) low high
        (sym (get_or-set_other ws (event_place p.shape t) 0 x 0 (λ z. omega arith))) (event_stays t h)
        (λ k l. get_or-set_other ws (event_place p.shape t) (late_place p.shape k) x 0 (λ z. omega arith)) a

    late_stays : (k : ℕ) → late_place p.shape k < length ws
        → put (records p ws).late k x ≡ (records p (set ws (late_place p.shape k) x)).late
    late_stays k h = put_path (records p ws).late (records p (set ws (late_place p.shape k) x)).late k x
        (get_or-set_same ws (late_place p.shape k) x 0 h)
        (λ n o. get_or-set_other ws (late_place p.shape k) (late_place p.shape n) x 0 (λ z. o (omega arith)))

    pub words_late : (k : ℕ) → k < p.shape.cycles → late_place p.shape k < length ws
        → records p (set ws (late_place p.shape k) x) ≡ record (records p ws) { late = put (records p ws).late k x }
    words_late k low h = λ j. record {
      ticket = get_or-set_other ws (late_place p.shape k) 0 x 0 (λ z. omega arith) j;
      event = λ t. get_or-set_other ws (late_place p.shape k) (event_place p.shape t) x 0 (λ z. omega arith) j;
      late = sym (late_stays k h) j;
    }

-- a step of a follower that changes nothing for the event rule, in the driver's cycle c
pub record QuietNode (c : ℕ) (x y : NodeView) : Type 0 where
  pub started : cond (eqb y.next c) (phase_started y.phase) 1 ≡ cond (eqb x.next c) (phase_started x.phase) 1
  pub finished : cond (eqb y.next c) (phase_finished y.phase) 1 ≡ cond (eqb x.next c) (phase_finished x.phase) 1
  pub start : y.start ≡ x.start
  pub finish : y.finish ≡ x.finish
  pub holds : phase_holds y y.phase ≡ phase_holds x x.phase

pub quiet_phase : (c : ℕ) (x : NodeView) (f h : Phase) → x.phase ≡ f → phase_started h ≡ phase_started f
    → phase_finished h ≡ phase_finished f → phase_holds (record x { phase = h }) h ≡ phase_holds x f
    → QuietNode c x (record x { phase = h })
quiet_phase c x f h is started finished holds = record {
  started = ap (λ k. cond (eqb x.next c) k 1) (started ∙ sym (ap phase_started is));
  finished = ap (λ k. cond (eqb x.next c) k 1) (finished ∙ sym (ap phase_finished is));
  start = refl;
  finish = refl;
  holds = holds ∙ sym (ap (phase_holds x) is);
}

-- and one of the driver's seat
pub record QuietLead (l x : DriverView) : Type 0 where
  pub cycle : x.cycle ≡ l.cycle
  pub checked : x.checked ≡ l.checked
  pub checks : x.checks ≡ l.checks
  pub lates : x.lates ≡ l.lates
  pub start : x.start ≡ l.start
  pub finish : x.finish ≡ l.finish
  pub started : drive_started x.drive ≡ drive_started l.drive
  pub finished : drive_finished x.drive ≡ drive_finished l.drive
  pub holds : drive_holds x x.drive ≡ drive_holds l l.drive
  pub tells : (late : ℕ) → drive_tells x late x.drive ≡ drive_tells l late l.drive
  pub sees : (looks : List Found) → drive_sees looks x.drive ≡ drive_sees looks l.drive
  pub begun : is_begun x.drive ≡ is_begun l.drive
  pub ending : is_ending x.drive ≡ is_ending l.drive
  pub checking : is_checking x.drive ≡ is_checking l.drive
  pub looking : is_looking x.drive ≡ is_looking l.drive

-- two phases of the driver's seat that hold no ticket and are at the same events
pub record QuietDrives (d e : DriverPhase) : Type 0 where
  pub started : drive_started e ≡ drive_started d
  pub finished : drive_finished e ≡ drive_finished d
  pub holds : (l : DriverView) → drive_holds l e ≡ drive_holds l d
  pub tells : (l : DriverView) (late : ℕ) → drive_tells l late e ≡ drive_tells l late d
  pub sees : (looks : List Found) → drive_sees looks e ≡ drive_sees looks d
  pub begun : is_begun e ≡ is_begun d
  pub ending : is_ending e ≡ is_ending d
  pub checking : is_checking e ≡ is_checking d
  pub looking : is_looking e ≡ is_looking d

abbrev at_drive : DriverView → DriverPhase → DriverView
at_drive l e = record l { drive = e }

holds_by : (l : DriverView) (d e : DriverPhase) → drive_holds (at_drive l e) d ≡ drive_holds l d
holds_by l drives.Between e = refl
holds_by l drives.BeginDrawn e = refl
holds_by l (drives.Reset i) e = refl
holds_by l (drives.Half i) e = refl
holds_by l (drives.Kick i o) e = refl
holds_by l drives.Waiting e = refl
holds_by l drives.Checking e = refl
holds_by l drives.LateStored e = refl
holds_by l drives.Awake e = refl
holds_by l drives.StartDrawn e = refl
holds_by l drives.Running e = refl
holds_by l drives.Done e = refl
holds_by l drives.FinishDrawn e = refl
holds_by l drives.FinishStored e = refl
holds_by l drives.EndDrawn e = refl

tells_by : (l : DriverView) (late : ℕ) (d e : DriverPhase) → drive_tells (at_drive l e) late d ≡ drive_tells l late d
tells_by l late drives.Between e = refl
tells_by l late drives.BeginDrawn e = refl
tells_by l late (drives.Reset i) e = refl
tells_by l late (drives.Half i) e = refl
tells_by l late (drives.Kick i o) e = refl
tells_by l late drives.Waiting e = refl
tells_by l late drives.Checking e = refl
tells_by l late drives.LateStored e = refl
tells_by l late drives.Awake e = refl
tells_by l late drives.StartDrawn e = refl
tells_by l late drives.Running e = refl
tells_by l late drives.Done e = refl
tells_by l late drives.FinishDrawn e = refl
tells_by l late drives.FinishStored e = refl
tells_by l late drives.EndDrawn e = refl

pub quiet_drive : (l : DriverView) (d e : DriverPhase) → l.drive ≡ d → QuietDrives d e → QuietLead l (record l { drive = e })
quiet_drive l d e is q = record {
  cycle = refl;
  checked = refl;
  checks = refl;
  lates = refl;
  start = refl;
  finish = refl;
  started = q.started ∙ sym (ap drive_started is);
  finished = q.finished ∙ sym (ap drive_finished is);
  holds = holds_by l e e ∙ q.holds l ∙ sym (ap (drive_holds l) is);
  tells = λ late. tells_by l late e e ∙ q.tells l late ∙ sym (ap (drive_tells l late) is);
  sees = λ looks. q.sees looks ∙ sym (ap (drive_sees looks) is);
  begun = q.begun ∙ sym (ap is_begun is);
  ending = q.ending ∙ sym (ap is_ending is);
  checking = q.checking ∙ sym (ap is_checking is);
  looking = q.looking ∙ sym (ap is_looking is);
}

module _ (p : BoardLayout) (g : Whole) where
  -- what is read at each index, when a follower or the driver's seat changes
  pub node_else : {A : Type 0} (F : NodeView → A) (D : A) (m n : ℕ) (y : NodeView) → n ≢ m
      → cond (eqb n p.driver) D (F (put g.nodes m y n)) ≡ cond (eqb n p.driver) D (F (g.nodes n))
  node_else F D m n y o = ap (λ z. cond (eqb n p.driver) D (F z)) (put_else g.nodes m n y o)

  pub node_here : {A : Type 0} (F : NodeView → A) (D : A) (m : ℕ) (y : NodeView) → m ≢ p.driver
      → cond (eqb m p.driver) D (F (put g.nodes m y m)) ≡ F y
  node_here F D m y o = ap (λ b. cond b D (F (put g.nodes m y m))) (ne_eqb m p.driver o) ∙ ap F (put_here g.nodes m y)

  pub node_was : {A : Type 0} (F : NodeView → A) (D : A) (m : ℕ) → m ≢ p.driver → cond (eqb m p.driver) D (F (g.nodes m)) ≡ F (g.nodes m)
  node_was F D m o = ap (λ b. cond b D (F (g.nodes m))) (ne_eqb m p.driver o)

  pub node_same : {A : Type 0} (F : NodeView → A) (D : A) (m : ℕ) (x y : NodeView) → g.nodes m ≡ x → F y ≡ F x → (n : ℕ)
      → cond (eqb n p.driver) D (F (put g.nodes m y n)) ≡ cond (eqb n p.driver) D (F (g.nodes n))
  node_same F D m x y is q n = dite (ℕ_discrete n m)
      (λ (h : n ≡ m). ap (λ z. cond (eqb n p.driver) D z)
      (ap F (ap (put g.nodes m y) h ∙ put_here g.nodes m y) ∙ q ∙ sym (ap F (ap g.nodes h ∙ is))))
      (λ (h : n ≢ m). node_else F D m n y h)

  pub marks_node : (m : ℕ) (x y : NodeView) → g.nodes m ≡ x → QuietNode g.lead.cycle x y → marks p (with_node g m y) ≡ marks p g
  marks_node m x y is q = λ i. record {
    counts = record {
      started = λ n. node_same (λ (z : NodeView). cond (eqb z.next g.lead.cycle) (phase_started z.phase) 1)
          (drive_started g.lead.drive) m x y is q.started n i;
      finished = λ n. node_same (λ (z : NodeView). cond (eqb z.next g.lead.cycle) (phase_finished z.phase) 1)
          (drive_finished g.lead.drive) m x y is q.finished n i;
      checked = g.lead.checked;
      sees = drive_sees g.looks g.lead.drive;
    };
    start = λ n. node_same (λ (z : NodeView). z.start) g.lead.start m x y is q.start n i;
    finish = λ n. node_same (λ (z : NodeView). z.finish) g.lead.finish m x y is q.finish n i;
    holds = λ n. node_same (λ (z : NodeView). phase_holds z z.phase) (drive_holds g.lead g.lead.drive) m x y is q.holds n i;
    tells = drive_tells g.lead g.late g.lead.drive;
    begun = is_begun g.lead.drive;
    ending = is_ending g.lead.drive;
  }

  pub marks_lead : (x : DriverView) → QuietLead g.lead x → marks p (with_lead g x) ≡ marks p g
  marks_lead x q = λ i. record {
    counts = record {
      started = λ n. cond (eqb n p.driver) (q.started i) (cond (eqb (g.nodes n).next (q.cycle i)) (phase_started (g.nodes n).phase) 1);
      finished = λ n. cond (eqb n p.driver) (q.finished i) (cond (eqb (g.nodes n).next (q.cycle i)) (phase_finished (g.nodes n).phase) 1);
      checked = q.checked i;
      sees = q.sees g.looks i;
    };
    start = λ n. cond (eqb n p.driver) (q.start i) (g.nodes n).start;
    finish = λ n. cond (eqb n p.driver) (q.finish i) (g.nodes n).finish;
    holds = λ n. cond (eqb n p.driver) (q.holds i) (phase_holds (g.nodes n) (g.nodes n).phase);
    tells = q.tells g.late i;
    begun = q.begun i;
    ending = q.ending i;
  }

  pub lead_here : {A : Type 0} (D : A) (F : NodeView → A) → cond (eqb p.driver p.driver) D (F (g.nodes p.driver)) ≡ D
  lead_here D F = ap (λ b. cond b D (F (g.nodes p.driver))) (eq-eqb p.driver p.driver refl)

  pub lead_else : {A : Type 0} (D E : A) (F : NodeView → A) (n : ℕ) → n ≢ p.driver
      → cond (eqb n p.driver) D (F (g.nodes n)) ≡ cond (eqb n p.driver) E (F (g.nodes n))
  lead_else D E F n o = ap (λ b. cond b D (F (g.nodes n))) (ne_eqb n p.driver o)
      ∙ sym (ap (λ b. cond b E (F (g.nodes n))) (ne_eqb n p.driver o))
