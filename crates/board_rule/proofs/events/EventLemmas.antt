-- Laws of `specs/EventRule.antt`: a node or the driver's seat draws a ticket or stores an event.
use Rattle.std.proofs.Common.{◌≡◌, ◌≢◌, ℕ, suc, ◌<◌, ◌≤◌, inl, inr, ⊎_elim, Bool, true, false, true≢false, cond, eqb, List, []}
use Rattle.std.proofs.Common.{◌∷◌, ◌++◌, length, set, get_or, Some, refl, sym, ap, ◌∙◌, subst, arith, eq-eqb, get_or-set_same}
use Rattle.std.proofs.Common.{get_or-set_other}
use mathlib.Core.Logic.{dite}
use native.Mathlib.Decide.{ℕ_discrete}
use Rattle.std.specs.Prelude.{slice_get, Contains}
use Rattle.pw_graph.specs.declared.event.Event.{Event}
use Rattle.pw_graph.specs.declared.event.Event.TheVariants.{Start, Finish}
use Rattle.pw_graph.specs.Dependencies.{Precedes}
use Rattle.pw_graph.specs.EventWords.{event_word_of}
use Rattle.pw_graph.specs.Layout.{event_count, event_place}
use Rattle.board_rule.specs.declared.view.Phase.{Phase}
use Rattle.board_rule.specs.declared.view.Phase.TheVariants.{Idle, Awake, StartDrawn, Running, Done, FinishDrawn, Telling}
use Rattle.board_rule.specs.declared.view.DriverPhase.{DriverPhase}
use Rattle.board_rule.specs.declared.view.DriverPhase.TheVariants as drives
use Rattle.board_rule.specs.declared.view.NodeView.{NodeView}
use Rattle.board_rule.specs.Layout.{BoardLayout, IsSound, nodes}
use Rattle.board_rule.specs.Sums.{times}
use Rattle.board_rule.specs.activation.Phases.{phase_rest, is_resetting, drive_stage}
use Rattle.board_rule.specs.View.{Whole, with_node}
use Rattle.board_rule.specs.events.Marks.{phase_started, phase_finished, phase_holds, drive_started, drive_finished, drive_holds, is_begun}
use Rattle.board_rule.specs.events.Marks.{is_ending}
use Rattle.board_rule.specs.activation.ActivationRule.{Activations, progress}
use Rattle.board_rule.specs.events.EventRule.{Events, IsHeld, so_far, marks, counts, records, node_drawn}
use Rattle.board_rule.proofs.RunLemmas.{woken_told}
use Rattle.board_rule.proofs.events.DrawLemmas.{Logs, Same, StartsAt, FinishesAt, starts_drawn, finishes_drawn, only_in}
use Rattle.board_rule.proofs.buffers.StoreLemmas.{SameNodes, event_stored}
use Rattle.board_rule.proofs.events.MarkLemmas.{words_drawn, words_stored, node_else, node_here, node_was, node_same}
use Rattle.board_rule.proofs.events.TicketLemmas.{logs_of, count_node}
use Rattle.board_rule.proofs.activation.FollowerLemmas.{rest_at, words_run}
use Rattle.board_rule.proofs.activation.CycleLemmas.{all_done}

pub begun_of : (d : DriverPhase) → (is_resetting d ≡ true → ⊥) → is_begun d ≡ true
begun_of drives.Between h = absurd (h refl)
begun_of drives.BeginDrawn h = refl
begun_of (drives.Reset i) h = refl
begun_of (drives.Half i) h = refl
begun_of (drives.Kick i o) h = refl
begun_of drives.Waiting h = refl
begun_of drives.Checking h = refl
begun_of drives.LateStored h = refl
begun_of drives.Awake h = refl
begun_of drives.StartDrawn h = refl
begun_of drives.Running h = refl
begun_of drives.Done h = refl
begun_of drives.FinishDrawn h = refl
begun_of drives.FinishStored h = refl
begun_of drives.EndDrawn h = refl

ending_is : (d : DriverPhase) → is_ending d ≡ true → (is_resetting d ≡ false) × (0 < drive_stage d)
ending_is drives.Between e = absurd (true≢false (sym e))
ending_is drives.BeginDrawn e = absurd (true≢false (sym e))
ending_is (drives.Reset i) e = absurd (true≢false (sym e))
ending_is (drives.Half i) e = absurd (true≢false (sym e))
ending_is (drives.Kick i o) e = absurd (true≢false (sym e))
ending_is drives.Waiting e = absurd (true≢false (sym e))
ending_is drives.Checking e = absurd (true≢false (sym e))
ending_is drives.LateStored e = absurd (true≢false (sym e))
ending_is drives.Awake e = absurd (true≢false (sym e))
ending_is drives.StartDrawn e = absurd (true≢false (sym e))
ending_is drives.Running e = absurd (true≢false (sym e))
ending_is drives.Done e = absurd (true≢false (sym e))
ending_is drives.FinishDrawn e = absurd (true≢false (sym e))
ending_is drives.FinishStored e = absurd (true≢false (sym e))
ending_is drives.EndDrawn e = (refl, omega arith)

pub same_one : (b : Bool) → cond {A = ℕ} b 1 1 ≡ 1
same_one true = refl
same_one false = refl

-- a node whose targets are all told, or that has ended the cycle, has drawn its Finish
finished_by : (b : Bool) (k d : ℕ) (ts : List ℕ) → times d (cond b ts []) ≡ 0 → 0 < times d ts → cond b k 1 ≡ 1
finished_by true k d ts h l = absurd (omega arith)
finished_by false k d ts h l = refl

told_finished : (b : Bool) (f : Phase) (d : ℕ) (ts : List ℕ) → times d (phase_rest ts b f) ≡ 0 → 0 < times d ts
    → cond b (phase_finished f) 1 ≡ 1
told_finished b Idle d ts h l = finished_by b 0 d ts h l
told_finished b Awake d ts h l = finished_by b 0 d ts h l
told_finished b StartDrawn d ts h l = finished_by b 0 d ts h l
told_finished b Running d ts h l = finished_by b 0 d ts h l
told_finished b Done d ts h l = finished_by b 0 d ts h l
told_finished b FinishDrawn d ts h l = finished_by b 1 d ts h l
told_finished b (Telling i o) d ts h l = same_one b

pub not_true : (b : Bool) → (b ≡ true → ⊥) → b ≡ false
not_true true h = absurd (h refl)
not_true false h = refl

module _ (p : BoardLayout) where
  -- all that precede a node that is awake have drawn their Finish
  pub done_before : (g : Whole) (ws : List ℕ) (n : ℕ) → IsSound p → Activations p g ws → (is_resetting g.lead.drive ≡ true → ⊥)
      → n < nodes p → (progress p g).stage n ≡ 1 → (m : ℕ) → m < nodes p → Precedes p.shape (p.number m) (p.number n)
      → (counts p g).finished m ≡ 1
  done_before g ws n sound a runs_on hn stage m hm before =
      let o : m ≢ p.driver = λ e. before.follower (ap p.number e ∙ sound.names_driver) in
      let told = woken_told p.shape g.lead.cycle n m (progress p g) ws hn hm stage (words_run p g g.lead.drive ws runs_on a.laid) in
      node_was p g (λ (z : NodeView). cond (eqb z.next g.lead.cycle) (phase_finished z.phase) 1) (drive_finished g.lead.drive) m o
      ∙ told_finished (eqb (g.nodes m).next g.lead.cycle) (g.nodes m).phase n (p.targets m) (sym (ap (times n) (rest_at p g m o)) ∙ told)
      (sound.follows m n hm hn before)

  -- a follower at work shows that the End of the cycle is not drawn
  pub unended : (g : Whole) (ws : List ℕ) (m : ℕ) → IsSound p → Activations p g ws → m < nodes p → m ≢ p.driver
      → ((g.nodes m).phase ≡ Idle → ⊥) → is_ending g.lead.drive ≡ false
  unended g ws m sound a inside follows busy = not_true (is_ending g.lead.drive)
      (λ e. let k = ending_is g.lead.drive e in busy (all_done p g ws sound a k.0 k.1 m inside follows).1)

  module _ (g : Whole) (m : ℕ) (x : NodeView) (t : ℕ) (o : m ≢ p.driver) (is : g.nodes m ≡ x) (now : x.next ≡ g.lead.cycle)
      (begun : is_begun g.lead.drive ≡ true) (open_end : is_ending g.lead.drive ≡ false) where
    same_frame : (y : NodeView) → Same (marks p g) (marks p (with_node g m y))
    same_frame y = record {
      tells = refl;
      begun = begun;
      goes_on = begun;
      unended = open_end;
      stays_unended = open_end;
      checked = refl;
      sees = refl;
    }

    at_c : eqb (g.nodes m).next g.lead.cycle ≡ true
    at_c = eq-eqb (g.nodes m).next g.lead.cycle (ap (λ (z : NodeView). z.next) is ∙ now)

    pub node_starts : x.phase ≡ Awake → StartsAt m t (marks p g) (marks p (with_node g m (record x { phase = StartDrawn; start = t })))
    node_starts phase = let y : NodeView = record x { phase = StartDrawn; start = t } in
        let ph : (g.nodes m).phase ≡ Awake = ap (λ (z : NodeView). z.phase) is ∙ phase in
        let S : NodeView → ℕ = λ z. cond (eqb z.next g.lead.cycle) (phase_started z.phase) 1 in let F : NodeView
        → ℕ = λ z. cond (eqb z.next g.lead.cycle) (phase_finished z.phase) 1 in record {
          same = same_frame y;
          was = node_was p g S (drive_started g.lead.drive) m o ∙ (λ i. cond (at_c i) (phase_started (ph i)) 1);
          now = node_here p g S (drive_started g.lead.drive) m y o ∙ same_one (eqb x.next g.lead.cycle);
          else = λ n q. node_else p g S (drive_started g.lead.drive) m n y q;
          finished = node_same p g F (drive_finished g.lead.drive) m x y is
              (sym (ap (λ f. cond (eqb x.next g.lead.cycle) (phase_finished f) 1) phase));
          start = node_here p g (λ (z : NodeView). z.start) g.lead.start m y o;
          start_else = λ n q. node_else p g (λ (z : NodeView). z.start) g.lead.start m n y q;
          finish = node_same p g (λ (z : NodeView). z.finish) g.lead.finish m x y is refl;
          held = node_was p g (λ (z : NodeView). phase_holds z z.phase) (drive_holds g.lead g.lead.drive) m o
              ∙ ap (phase_holds (g.nodes m)) ph;
          holds = node_here p g (λ (z : NodeView). phase_holds z z.phase) (drive_holds g.lead g.lead.drive) m y o;
          holds_else = λ n q. node_else p g (λ (z : NodeView). phase_holds z z.phase) (drive_holds g.lead g.lead.drive) m n y q;
        }

    pub node_finishes : x.phase ≡ Done → FinishesAt m t (marks p g) (marks p (with_node g m (record x { phase = FinishDrawn; finish = t })))
    node_finishes phase = let y : NodeView = record x { phase = FinishDrawn; finish = t } in
        let ph : (g.nodes m).phase ≡ Done = ap (λ (z : NodeView). z.phase) is ∙ phase in
        let S : NodeView → ℕ = λ z. cond (eqb z.next g.lead.cycle) (phase_started z.phase) 1 in let F : NodeView
        → ℕ = λ z. cond (eqb z.next g.lead.cycle) (phase_finished z.phase) 1 in record {
          same = same_frame y;
          was = node_was p g F (drive_finished g.lead.drive) m o ∙ (λ i. cond (at_c i) (phase_finished (ph i)) 1);
          now = node_here p g F (drive_finished g.lead.drive) m y o ∙ same_one (eqb x.next g.lead.cycle);
          else = λ n q. node_else p g F (drive_finished g.lead.drive) m n y q;
          begun = node_was p g S (drive_started g.lead.drive) m o ∙ (λ i. cond (at_c i) (phase_started (ph i)) 1);
          started = node_same p g S (drive_started g.lead.drive) m x y is
              (sym (ap (λ f. cond (eqb x.next g.lead.cycle) (phase_started f) 1) phase));
          finish = node_here p g (λ (z : NodeView). z.finish) g.lead.finish m y o;
          finish_else = λ n q. node_else p g (λ (z : NodeView). z.finish) g.lead.finish m n y q;
          start = node_same p g (λ (z : NodeView). z.start) g.lead.start m x y is refl;
          held = node_was p g (λ (z : NodeView). phase_holds z z.phase) (drive_holds g.lead g.lead.drive) m o
              ∙ ap (phase_holds (g.nodes m)) ph;
          holds = node_here p g (λ (z : NodeView). phase_holds z z.phase) (drive_holds g.lead g.lead.drive) m y o;
          holds_else = λ n q. node_else p g (λ (z : NodeView). phase_holds z z.phase) (drive_holds g.lead g.lead.drive) m n y q;
        }

    -- the follower stores the event that it holds the ticket of
    node_stores : (f h : Phase) → x.phase ≡ f → phase_started h ≡ phase_started f → phase_finished h ≡ phase_finished f
        → phase_holds (record x { phase = h }) h ≡ [] → (k : ℕ) → phase_holds x f ≡ k ∷ []
        → SameNodes (marks p g) (marks p (with_node g m (record x { phase = h })))
        × ((j : ℕ) → IsHeld p (marks p g) j → j ≢ k → IsHeld p (marks p (with_node g m (record x { phase = h }))) j)
    node_stores f h phase started finished none k one = let y : NodeView = record x { phase = h } in
        let S : NodeView → ℕ = λ z. cond (eqb z.next g.lead.cycle) (phase_started z.phase) 1 in let F : NodeView
        → ℕ = λ z. cond (eqb z.next g.lead.cycle) (phase_finished z.phase) 1 in
        let H : NodeView → List ℕ = λ z. phase_holds z z.phase in (
          record {
            started = node_same p g S (drive_started g.lead.drive) m x y is
                (ap (λ k. cond (eqb x.next g.lead.cycle) k 1) (started ∙ sym (ap phase_started phase)));
            finished = node_same p g F (drive_finished g.lead.drive) m x y is
                (ap (λ k. cond (eqb x.next g.lead.cycle) k 1) (finished ∙ sym (ap phase_finished phase)));
            start = node_same p g (λ (z : NodeView). z.start) g.lead.start m x y is refl;
            finish = node_same p g (λ (z : NodeView). z.finish) g.lead.finish m x y is refl;
          },
          λ j held other. ⊎_elim (λ (z : (n : ℕ) × (n < nodes p) × Contains ((marks p g).holds n) j). dite (ℕ_discrete z.0 m)
              (λ (q : z.0 ≡ m). absurd (other (sym (only_in k j
              (subst (λ ks. Contains ks j) (ap (marks p g).holds q ∙ node_was p g H (drive_holds g.lead g.lead.drive) m o ∙ ap H is
              ∙ ap (phase_holds x) phase ∙ one) z.2)))))
              (λ (q : z.0 ≢ m). inl (
                z.0,
                z.1,
                subst (λ ks. Contains ks j)
                    (sym (node_else p g H (drive_holds g.lead g.lead.drive) m z.0 y q)) z.2,
              )))
              (λ (z : (e : Event) × Contains (marks p g).tells (j, e)). inr z) held,
        )

  -- a follower draws its Start
  pub events_start : (g : Whole) (ws : List ℕ) (m : ℕ) (x : NodeView) → IsSound p → Activations p g ws → Events p g ws → 0 < length ws
      → m < nodes p → m ≢ p.driver → g.nodes m ≡ x → x.next ≡ g.lead.cycle → x.phase ≡ Awake → (is_resetting g.lead.drive ≡ true → ⊥)
      → (progress p g).stage m ≡ 1 → suc (get_or ws 0 0) ≤ event_count p.shape
      → Events p (record (with_node g m (record x { phase = StartDrawn; start = get_or ws 0 0 }))
      { inside = g.inside ++ Start g.lead.cycle (p.number m) ∷ [] }) (set ws 0 (suc (get_or ws 0 0)))
  events_start g ws m x sound a e wide inside follows is now phase runs_on stage room =
      let t : ℕ = get_or ws 0 0 in let k = e.tickets in let drawn = k.drawn in
      let busy : (g.nodes m).phase ≡ Idle → ⊥ = λ z. awake_not (sym phase ∙ sym (ap (λ (w : NodeView). w.phase) is) ∙ z) in
      let at = node_starts g m x t follows is now (begun_of g.lead.drive runs_on) (unended g ws m sound a inside follows busy) phase in
      let logs = subst (Logs p g.lead.cycle g.late g.past (g.inside ++ Start g.lead.cycle (p.number m) ∷ [])
      (marks p (with_node g m (record x { phase = StartDrawn; start = t })))) (sym (words_drawn p ws (suc t) wide))
      (starts_drawn p sound g.lead.cycle g.late g.past g.inside (marks p g)
      (marks p (with_node g m (record x { phase = StartDrawn; start = t }))) (records p ws) (logs_of p g ws e) m t inside at refl
      (omega arith) (done_before g ws m sound a runs_on inside stage)) in record {
        count = let b = count_node p g t 1 m x (record x { phase = StartDrawn; start = t }) inside follows is
            (let z = ap (λ f. node_drawn (record x { phase = f })) phase in omega arith) e.count in
            let w = get_or-set_same ws 0 (suc t) 0 wide in omega arith;
        checks = e.checks;
        lates = e.lates;
        checking = e.checking;
        fresh = λ z. absurd (true≢false (sym (begun_of g.lead.drive runs_on) ∙ z));
        tickets = logs.tickets;
        earlier = logs.earlier;
        inside = logs.inside;
      }
    where
      awake_not : (let f : Phase = Awake in f) ≡ Idle → ⊥
      awake_not z = (cc)

  -- and its Finish
  pub events_finish : (g : Whole) (ws : List ℕ) (m : ℕ) (x : NodeView) → IsSound p → Activations p g ws → Events p g ws → 0 < length ws
      → m < nodes p → m ≢ p.driver → g.nodes m ≡ x → x.next ≡ g.lead.cycle → x.phase ≡ Done → (is_resetting g.lead.drive ≡ true → ⊥)
      → suc (get_or ws 0 0) ≤ event_count p.shape
      → Events p (record (with_node g m (record x { phase = FinishDrawn; finish = get_or ws 0 0 }))
      { inside = g.inside ++ Finish g.lead.cycle (p.number m) ∷ [] }) (set ws 0 (suc (get_or ws 0 0)))
  events_finish g ws m x sound a e wide inside follows is now phase runs_on room =
      let t : ℕ = get_or ws 0 0 in let k = e.tickets in let drawn = k.drawn in
      let busy : (g.nodes m).phase ≡ Idle → ⊥ = λ z. done_not (sym phase ∙ sym (ap (λ (w : NodeView). w.phase) is) ∙ z) in
      let at = node_finishes g m x t follows is now (begun_of g.lead.drive runs_on) (unended g ws m sound a inside follows busy) phase in
      let logs = subst (Logs p g.lead.cycle g.late g.past (g.inside ++ Finish g.lead.cycle (p.number m) ∷ [])
      (marks p (with_node g m (record x { phase = FinishDrawn; finish = t })))) (sym (words_drawn p ws (suc t) wide))
      (finishes_drawn p sound g.lead.cycle g.late g.past g.inside (marks p g)
      (marks p (with_node g m (record x { phase = FinishDrawn; finish = t }))) (records p ws) (logs_of p g ws e) m t inside at refl
      (omega arith)) in record {
        count = let b = count_node p g t 1 m x (record x { phase = FinishDrawn; finish = t }) inside follows is
            (let z = ap (λ f. node_drawn (record x { phase = f })) phase in omega arith) e.count in
            let w = get_or-set_same ws 0 (suc t) 0 wide in omega arith;
        checks = e.checks;
        lates = e.lates;
        checking = e.checking;
        fresh = λ z. absurd (true≢false (sym (begun_of g.lead.drive runs_on) ∙ z));
        tickets = logs.tickets;
        earlier = logs.earlier;
        inside = logs.inside;
      }
    where
      done_not : (let f : Phase = Done in f) ≡ Idle → ⊥
      done_not z = (cc)

  -- a follower stores its Start or its Finish
  pub events_stored : (g : Whole) (ws : List ℕ) (m k : ℕ) (x : NodeView) (f h : Phase) (e : Event) → IsSound p → Activations p g ws
      → Events p g ws → event_place p.shape k < length ws → m < nodes p → m ≢ p.driver → g.nodes m ≡ x → x.next ≡ g.lead.cycle
      → x.phase ≡ f → (is_resetting g.lead.drive ≡ true → ⊥) → ((g.nodes m).phase ≡ Idle → ⊥)
      → phase_started h ≡ phase_started f → phase_finished h ≡ phase_finished f → phase_holds (record x { phase = h }) h ≡ []
      → phase_holds x f ≡ k ∷ [] → slice_get (g.past ++ so_far (marks p g) g.lead.cycle g.inside) k ≡ Some e
      → node_drawn x ≤ node_drawn (record x { phase = h })
      → Events p (with_node g m (record x { phase = h })) (set ws (event_place p.shape k) (event_word_of e))
  events_stored g ws m k x f h e sound a ev room inside follows is now phase runs_on busy started finished none one at more =
      let y : NodeView = record x { phase = h } in let b = begun_of g.lead.drive runs_on in
      let o = unended g ws m sound a inside follows busy in
      let st = node_stores g m x k follows is now b o f h phase started finished none k one in
      let logs = words_stored p ws (event_word_of e) g.lead.cycle g.late g.past g.inside (marks p (with_node g m y)) k a.later a.early room
      (event_stored p g.lead.cycle g.late g.past g.inside (marks p g) (marks p (with_node g m y)) (records p ws)
      (logs_of p g ws ev) st.0 k e at true false (b, o) (b, o) refl refl st.1 (λ j z q. q)) in record {
        count = let c = count_node p g (get_or ws 0 0) 0 m x y inside follows is (omega arith) ev.count in
            let w = get_or-set_other ws (event_place p.shape k) 0 (event_word_of e) 0 (λ z. omega arith) in omega arith;
        checks = ev.checks;
        lates = ev.lates;
        checking = ev.checking;
        fresh = ev.fresh;
        tickets = logs.tickets;
        earlier = logs.earlier;
        inside = logs.inside;
      }

  -- the event of a ticket that a follower holds
  pub start_logged : (g : Whole) (m : ℕ) (x : NodeView) (ws : List ℕ) → m ≢ p.driver → m < nodes p → g.nodes m ≡ x
      → (g.nodes m).phase ≡ StartDrawn → Activations p g ws → Events p g ws
      → slice_get (g.past ++ so_far (marks p g) g.lead.cycle g.inside) x.start ≡ Some (Start g.lead.cycle (p.number m))
  start_logged g m x ws o inside is phase a e =
      ap (slice_get (g.past ++ so_far (marks p g) g.lead.cycle g.inside))
      (sym (node_was p g (λ (z : NodeView). z.start) g.lead.start m o ∙ ap (λ (z : NodeView). z.start) is))
      ∙ (e.tickets.starts_kept m inside (node_was p g (λ (z : NodeView). cond (eqb z.next g.lead.cycle) (phase_started z.phase) 1)
      (drive_started g.lead.drive) m o ∙ ap (λ f. cond (eqb (g.nodes m).next g.lead.cycle) (phase_started f) 1) phase
      ∙ same_one (eqb (g.nodes m).next g.lead.cycle))).1

  pub finish_logged : (g : Whole) (m : ℕ) (x : NodeView) (ws : List ℕ) → m ≢ p.driver → m < nodes p → g.nodes m ≡ x
      → (g.nodes m).phase ≡ FinishDrawn → Activations p g ws → Events p g ws
      → slice_get (g.past ++ so_far (marks p g) g.lead.cycle g.inside) x.finish ≡ Some (Finish g.lead.cycle (p.number m))
  finish_logged g m x ws o inside is phase a e =
      ap (slice_get (g.past ++ so_far (marks p g) g.lead.cycle g.inside))
      (sym (node_was p g (λ (z : NodeView). z.finish) g.lead.finish m o ∙ ap (λ (z : NodeView). z.finish) is))
      ∙ (e.tickets.finishes_kept m inside (node_was p g (λ (z : NodeView). cond (eqb z.next g.lead.cycle) (phase_finished z.phase) 1)
      (drive_finished g.lead.drive) m o ∙ ap (λ f. cond (eqb (g.nodes m).next g.lead.cycle) (phase_finished f) 1) phase
      ∙ same_one (eqb (g.nodes m).next g.lead.cycle))).1
