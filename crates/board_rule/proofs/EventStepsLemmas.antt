-- Tickets, events and checks: what each step allows, of a follower and of the driver's seat.
use Rattle.std.proofs.Common.{◌≡◌, ◌≢◌, ℕ, suc, ◌+◌, ◌%◌, ◌^◌, ◌<◌, ◌≤◌, true, true≢false, eqb, List, [], ◌∷◌}
use Rattle.std.proofs.Common.{◌++◌, length, set, get_or, Some, refl, sym, ap, ◌∙◌, subst, arith, length-set}
use mathlib.Core.Option.{some}
use lib.ListN.{get_elem?}
use lib.Seq.{set-get_or}
use Rattle.std.specs.Prelude.{slice_get}
use Rattle.atomic_table.specs.Table.{State, Me, keeps, stepped, Allows}
use Rattle.pw_graph.specs.declared.event.Event.{Event}
use Rattle.pw_graph.specs.declared.event.Event.TheVariants.{Start, Finish}
use Rattle.pw_graph.specs.EventWords.{event_word_of}
use Rattle.pw_graph.specs.Layout.{event_count, event_place, status_place}
use Rattle.pw_lists.specs.Limits.{dummy_node}
use Rattle.board_rule.specs.declared.view.Phase.{Phase}
use Rattle.board_rule.specs.declared.view.Phase.TheVariants.{Idle, Awake, StartDrawn, Done, FinishDrawn}
use Rattle.board_rule.specs.declared.view.DriverPhase.TheVariants as drives
use Rattle.board_rule.specs.declared.view.NodeView.{NodeView}
use Rattle.board_rule.specs.declared.view.DriverView.{DriverView}
use Rattle.board_rule.specs.declared.view.Trail.{Trail}
use Rattle.board_rule.specs.declared.view.Found.{Found}
use Rattle.board_rule.specs.declared.view.View.{View}
use Rattle.board_rule.specs.Layout.{BoardLayout, IsSound, nodes}
use Rattle.board_rule.specs.activation.Phases.{phase_stage, PhaseOk, phase_drawn, is_resetting}
use Rattle.board_rule.specs.events.Marks.{phase_started, phase_finished, phase_holds}
use Rattle.board_rule.specs.View.{Whole, node_of, with_node, with_lead, view_node, view_lead, view_trail}
use Rattle.board_rule.specs.activation.ActivationRule.{Activations, progress}
use Rattle.board_rule.specs.events.EventRule.{Events, so_far, marks, lead_drawn, node_drawn}
use Rattle.board_rule.specs.events.Bits.{AreOfNodes}
use Rattle.std.proofs.lemmas.List.Elements.{All-cons}
use Rattle.board_rule.specs.buffers.Spans.{phase_over, phase_begun}
use Rattle.board_rule.specs.BoardRule.{Holds}
use Rattle.board_rule.specs.Steps.{Has}
use Rattle.board_rule.specs.working.Plays.{Leaves, Learns}
use Rattle.board_rule.proofs.start.SeatLemmas.{node_step, lead_step, look_step, seated_logs}
use Rattle.board_rule.proofs.events.TicketLemmas.{count_node, count_lead, few_tickets}
use Rattle.board_rule.proofs.activation.FollowerLemmas.{stage_at, not_resetting, same_node}
use Rattle.board_rule.proofs.activation.WorkStepsLemmas.{Alike, draws_start, draws_finish, active_alike, ticket_is_other, later_is_other}
use Rattle.board_rule.proofs.DriverLemmas.{lead_is}
use Rattle.board_rule.proofs.buffers.SpanLemmas.{IsLeadPaced, IsLogWord, phase_paced, buffers_node, buffers_lead, wired_in, early_word, log_word}
use Rattle.board_rule.proofs.events.EventLemmas.{events_start, events_finish, events_stored}
use Rattle.board_rule.proofs.events.CheckStepsLemmas.{events_looked}

drawn_word : (ws : List ℕ) (k : ℕ) → 0 < length ws → get_or (set ws 0 (suc k)) 0 0 ≡ suc k
drawn_word [] k h = absurd (omega arith)
drawn_word (x ∷ xs) k h = refl

module _ (p : BoardLayout) where
  -- the activation rule does not read the events
  pub act_logs : (g : Whole) (ws : List ℕ) (past inside : List Event) (late : ℕ) (looks : List Found) → Activations p g ws
      → Activations p (record g { past = past; inside = inside; late = late; looks = looks }) ws
  act_logs g ws past inside late looks a = record {
    later = a.later;
    early = a.early;
    within = a.within;
    drive = a.drive;
    followers = a.followers;
    resting = a.resting;
    laid = a.laid;
  }

  module _ {S : Type 0} where
    -- a follower draws its Start
    pub draw_start_allowed : (slots id m : ℕ) (me : Me S View) (after : ℕ → View) (says : ℕ → Type 0) → Has p me.0 m
        → (node_of me.0 m).phase ≡ Awake
        → ((found : ℕ) → after found ≡ view_node me.0 m (record (node_of me.0 m) { phase = StartDrawn; start = found }) me.0.trail)
        → ((found : ℕ) → found < event_count p.shape → says found)
        → Allows (Holds p) slots id me 0 (λ w. (w + 1) % 2 ^ 64) (Learns after says me)
    draw_start_allowed slots id m me after says has phase is_after is_said s r _ at fits =
        let g = r.whole in let a = r.activations in let sound = r.seated.sound in let wide = r.seated.wide in
        let x : NodeView = node_of me.0 m in
        let found : ℕ = get_or s.words 0 0 in
        let new : NodeView = record x { phase = StartDrawn; start = found } in
        let ws : List ℕ = set s.words 0 (suc found) in
        let same = same_node p s r id m me.0 at has in
        let phase' : (g.nodes m).phase ≡ Awake = ap (λ (y : NodeView). y.phase) same ∙ phase in
        let ok : PhaseOk (length (p.targets m)) g.lead.cycle (g.nodes m).next Awake =
        subst (λ (f : Phase). PhaseOk (length (p.targets m)) g.lead.cycle (g.nodes m).next f) phase'
        (a.followers m has.inside has.follows) in
        let now : x.next ≡ g.lead.cycle = sym (ap (λ (y : NodeView). y.next) same) ∙ ok in
        let runs_on = not_resetting p g s.words m a has.inside has.follows (λ e. awake_not (sym phase' ∙ e)) in
        let active : Activations p (with_node g m new) ws =
        active_alike p s r id m me.0 Awake StartDrawn new 0 (suc found) at has draws_start phase refl refl (ticket_is_other p) in
        let more : node_drawn new ≡ node_drawn x + 1 = let b : phase_drawn x.phase ≡ phase_drawn Awake = ap phase_drawn phase in
        omega arith in
        let e = r.events in
        let few = few_tickets p (with_node g m new) (found + 1) ws sound active
        (count_node p g found 1 m x new has.inside has.follows same (omega arith) e.count) in
        let limit = sound.events in
        let stage : (progress p g).stage m ≡ 1 = stage_at p g m has.follows ∙ ap (phase_stage (eqb (g.nodes m).next g.lead.cycle)) phase' in
        let inside : List Event = g.inside ++ Start g.lead.cycle (p.number m) ∷ [] in
        let word : (found + 1) % 2 ^ 64 ≡ suc found = omega arith in (
          view_node me.0 m new me.0.trail,
          keeps,
          tt,
          subst (λ k. Holds p (stepped s 0 k id me.1 (view_node me.0 m new me.0.trail) keeps)) (sym word) record {
            whole = record (with_node g m new) { inside = inside };
            seated = seated_logs p (with_node g m new) ws _ g.past inside g.late
                (node_step p g s.words ws s.views id m me.0 new me.0.trail at
                (length-set s.words 0 (suc found)) has.loops has.inside has.follows has.owned r.seated);
            activations = act_logs (with_node g m new) ws g.past inside g.late g.looks active;
            events = events_start p g s.words m x sound a e (omega arith) has.inside has.follows same now phase runs_on stage (omega arith);
            buffers = buffers_node p g s.words ws m x new (wired_in p g s.words s.views r.seated) same
                (phase_paced x Awake new phase refl refl (omega arith)) (early_word p s.words 0 (suc found) (omega arith)) r.buffers;
          },
          (sym (is_after found), refl, is_said found (omega arith)),
        )
      where
        awake_not : (let f : Phase = Awake in f) ≡ Idle → ⊥
        awake_not z = (cc)

    -- and its Finish
    pub draw_finish_allowed : (slots id m : ℕ) (me : Me S View) (after : ℕ → View) (says : ℕ → Type 0) → Has p me.0 m
        → (node_of me.0 m).phase ≡ Done
        → ((found : ℕ) → after found ≡ view_node me.0 m (record (node_of me.0 m) { phase = FinishDrawn; finish = found }) me.0.trail)
        → ((found : ℕ) → found < event_count p.shape → says found)
        → Allows (Holds p) slots id me 0 (λ w. (w + 1) % 2 ^ 64) (Learns after says me)
    draw_finish_allowed slots id m me after says has phase is_after is_said s r _ at fits =
        let g = r.whole in let a = r.activations in let sound = r.seated.sound in let wide = r.seated.wide in
        let x : NodeView = node_of me.0 m in
        let found : ℕ = get_or s.words 0 0 in
        let new : NodeView = record x { phase = FinishDrawn; finish = found } in
        let ws : List ℕ = set s.words 0 (suc found) in
        let same = same_node p s r id m me.0 at has in
        let phase' : (g.nodes m).phase ≡ Done = ap (λ (y : NodeView). y.phase) same ∙ phase in
        let ok : PhaseOk (length (p.targets m)) g.lead.cycle (g.nodes m).next Done =
        subst (λ (f : Phase). PhaseOk (length (p.targets m)) g.lead.cycle (g.nodes m).next f) phase'
        (a.followers m has.inside has.follows) in
        let now : x.next ≡ g.lead.cycle = sym (ap (λ (y : NodeView). y.next) same) ∙ ok in
        let runs_on = not_resetting p g s.words m a has.inside has.follows (λ e. done_not (sym phase' ∙ e)) in
        let active : Activations p (with_node g m new) ws =
        active_alike p s r id m me.0 Done FinishDrawn new 0 (suc found) at has draws_finish phase refl refl (ticket_is_other p) in
        let more : node_drawn new ≡ node_drawn x + 1 = let b : phase_drawn x.phase ≡ phase_drawn Done = ap phase_drawn phase in
        omega arith in
        let e = r.events in
        let few = few_tickets p (with_node g m new) (found + 1) ws sound active
        (count_node p g found 1 m x new has.inside has.follows same (omega arith) e.count) in
        let limit = sound.events in
        let inside : List Event = g.inside ++ Finish g.lead.cycle (p.number m) ∷ [] in
        let word : (found + 1) % 2 ^ 64 ≡ suc found = omega arith in (
          view_node me.0 m new me.0.trail,
          keeps,
          tt,
          subst (λ k. Holds p (stepped s 0 k id me.1 (view_node me.0 m new me.0.trail) keeps)) (sym word) record {
            whole = record (with_node g m new) { inside = inside };
            seated = seated_logs p (with_node g m new) ws _ g.past inside g.late
                (node_step p g s.words ws s.views id m me.0 new me.0.trail at
                (length-set s.words 0 (suc found)) has.loops has.inside has.follows has.owned r.seated);
            activations = act_logs (with_node g m new) ws g.past inside g.late g.looks active;
            events = events_finish p g s.words m x sound a e (omega arith) has.inside has.follows same now phase runs_on (omega arith);
            buffers = buffers_node p g s.words ws m x new (wired_in p g s.words s.views r.seated) same
                (phase_paced x Done new phase refl refl (omega arith)) (early_word p s.words 0 (suc found) (omega arith)) r.buffers;
          },
          (sym (is_after found), refl, is_said found (omega arith)),
        )
      where
        done_not : (let f : Phase = Done in f) ≡ Idle → ⊥
        done_not z = (cc)

    -- a follower stores the event e of the ticket k that it holds
    pub store_allowed : (slots id m k : ℕ) (me : Me S View) (f h : Phase) (e : ℕ → Event) (after : ℕ → View) → Has p me.0 m → Alike f h
        → (node_of me.0 m).phase ≡ f → phase_started h ≡ phase_started f → phase_finished h ≡ phase_finished f
        → phase_drawn h ≡ phase_drawn f → phase_over h ≡ phase_over f → phase_begun f ≤ phase_begun h
        → phase_holds (record (node_of me.0 m) { phase = h }) h ≡ [] → phase_holds (node_of me.0 m) f ≡ k ∷ [] → k < event_count p.shape
        → ((s : State S View) (r : Holds p s) → get_elem? s.views id ≡ some me.0 → (r.whole.nodes m ≡ node_of me.0 m)
        → (r.whole.nodes m).phase ≡ f → slice_get (r.whole.past ++ so_far (marks p r.whole) r.whole.lead.cycle r.whole.inside) k
        ≡ Some (e r.whole.lead.cycle))
        → ((found : ℕ) → after found ≡ view_node me.0 m (record (node_of me.0 m) { phase = h }) me.0.trail)
        → Allows (Holds p) slots id me (event_place p.shape k) (λ _. event_word_of (e (node_of me.0 m).next))
        (λ _. Leaves after me (event_word_of (e (node_of me.0 m).next)))
    store_allowed slots id m k me f h e after has like phase started finished drawn ended begun none one near logged is_after s r _ at fits =
        let g = r.whole in let a = r.activations in let sound = r.seated.sound in let long = r.seated.long in
        let x : NodeView = node_of me.0 m in
        let new : NodeView = record x { phase = h } in
        let same = same_node p s r id m me.0 at has in
        let phase' : (g.nodes m).phase ≡ f = ap (λ (y : NodeView). y.phase) same ∙ phase in
        let ok : PhaseOk (length (p.targets m)) g.lead.cycle (g.nodes m).next f =
        subst (λ (z : Phase). PhaseOk (length (p.targets m)) g.lead.cycle (g.nodes m).next z) phase'
        (a.followers m has.inside has.follows) in
        let now : x.next ≡ g.lead.cycle = sym (ap (λ (y : NodeView). y.next) same)
        ∙ like.now (length (p.targets m)) g.lead.cycle (g.nodes m).next ok in
        let busy : (g.nodes m).phase ≡ Idle → ⊥ = λ z. like.busy (sym phase' ∙ z) in
        let runs_on = not_resetting p g s.words m a has.inside has.follows busy in
        let i : ℕ = event_place p.shape k in
        let more : node_drawn x ≡ node_drawn new = let b : phase_drawn x.phase ≡ phase_drawn f = ap phase_drawn phase in omega arith in (
          view_node me.0 m new me.0.trail,
          keeps,
          tt,
          subst (λ c. Holds p (stepped s i (event_word_of (e c)) id me.1 (view_node me.0 m new me.0.trail) keeps)) (sym now) record {
            whole = with_node g m new;
            seated = node_step p g s.words (set s.words i (event_word_of (e g.lead.cycle))) s.views id m me.0 new me.0.trail at
                (length-set s.words i (event_word_of (e g.lead.cycle))) has.loops has.inside has.follows has.owned r.seated;
            activations = active_alike p s r id m me.0 f h new i (event_word_of (e g.lead.cycle)) at has like phase refl refl
                (later_is_other p i (omega arith));
            events = events_stored p g s.words m k x f h (e g.lead.cycle) sound a r.events
                (omega arith) has.inside has.follows same now phase runs_on busy started finished none one (logged s r at same phase')
                (omega arith);
            buffers = buffers_node p g s.words (set s.words i (event_word_of (e g.lead.cycle))) m x new
                (wired_in p g s.words s.views r.seated) same (phase_paced x f new phase refl ended begun)
                (log_word p s.words i (event_word_of (e g.lead.cycle)) (omega arith, omega arith)) r.buffers;
          },
          (sym (is_after (event_word_of (e x.next))), refl),
        )

    -- the driver's seat draws a ticket
    pub draw_lead_allowed : (slots id : ℕ) (me : Me S View) (y : ℕ → DriverView) (t : Trail) (after : ℕ → View) (says : ℕ → Type 0)
        → me.0.number ≡ p.seats → (AreOfNodes me.0.trail.looks → AreOfNodes t.looks)
        → ((g : Whole) (ws : List ℕ) → me.0.lead ≡ g.lead → Activations p g ws → (k : ℕ)
        → Activations p (with_lead g (y k)) (set ws 0 (suc k))) → ((k : ℕ) → lead_drawn me.0.lead + 1 ≤ lead_drawn (y k))
        → ((k : ℕ) → IsLeadPaced me.0.lead (y k))
        → ((g : Whole) (ws : List ℕ) → me.0.lead ≡ g.lead → me.0.trail.looks ≡ g.looks → IsSound p → Activations p g ws → Events p g ws
        → 0 < length ws → suc (get_or ws 0 0) ≤ event_count p.shape
        → (inside : List Event) × Events p (record (with_lead g (y (get_or ws 0 0))) { inside = inside; looks = t.looks })
        (set ws 0 (suc (get_or ws 0 0))))
        → ((found : ℕ) → after found ≡ view_lead me.0 (y found) t) → ((found : ℕ) → found < event_count p.shape → says found)
        → Allows (Holds p) slots id me 0 (λ w. (w + 1) % 2 ^ 64) (Learns after says me)
    draw_lead_allowed slots id me y t after says number nodes_are goes more paced logs is_after is_said s r _ at fits =
        let g = r.whole in let sound = r.seated.sound in let wide = r.seated.wide in
        let is = lead_is p s r id me.0 at number in
        let looks = ((r.seated.knows id me.0 at).is_driver number).2 in
        let found : ℕ = get_or s.words 0 0 in
        let ws : List ℕ = set s.words 0 (suc found) in
        let active = goes g s.words is r.activations found in
        let least : lead_drawn g.lead + 1 ≤ lead_drawn (y found) =
        subst (λ (l : DriverView). lead_drawn l + 1 ≤ lead_drawn (y found)) is (more found) in
        let e = r.events in
        let few = few_tickets p (with_lead g (y found)) (found + 1) ws sound active (count_lead p g found 1 (y found) least e.count) in
        let limit = sound.events in
        let l = logs g s.words is looks sound r.activations e (omega arith) (omega arith) in
        let word : (found + 1) % 2 ^ 64 ≡ suc found = omega arith in (
          view_lead me.0 (y found) t,
          keeps,
          tt,
          subst (λ k. Holds p (stepped s 0 k id me.1 (view_lead me.0 (y found) t) keeps)) (sym word) record {
            whole = record (with_lead g (y found)) { inside = l.0; looks = t.looks };
            seated = seated_logs p (record (with_lead g (y found)) { looks = t.looks }) ws _ g.past l.0 g.late
                (lead_step p g s.words ws s.views id me.0 (y found) t t.looks at (length-set s.words 0 (suc found)) number refl
                (nodes_are ((r.seated.knows id me.0 at).looks number)) r.seated);
            activations = act_logs (with_lead g (y found)) ws g.past l.0 g.late t.looks active;
            events = l.1;
            buffers = buffers_lead p g s.words ws (y found) (wired_in p g s.words s.views r.seated)
                (subst (λ (x : DriverView). IsLeadPaced x (y found)) is (paced found))
                (early_word p s.words 0 (suc found) (omega arith)) r.buffers;
          },
          (sym (is_after found), refl, is_said found (omega arith)),
        )

    -- the driver's seat stores an event or a late set in the word i
    pub store_lead_allowed : (slots id i x : ℕ) (me : Me S View) (y : DriverView) (t : Trail) (after : ℕ → View) → me.0.number ≡ p.seats
        → t.looks ≡ me.0.trail.looks → IsLogWord p i → IsLeadPaced me.0.lead y
        → ((g : Whole) (ws : List ℕ) → IsSound p → me.0.lead ≡ g.lead → Activations p g ws → Activations p (with_lead g y) (set ws i x))
        → ((g : Whole) (ws : List ℕ) → me.0.lead ≡ g.lead → me.0.trail.looks ≡ g.looks → IsSound p → Activations p g ws → Events p g ws
        → event_place p.shape (event_count p.shape) ≤ length ws
        → (past inside : List Event) × (late : ℕ) × Events p
        (record (with_lead g y) { past = past; inside = inside; late = late; looks = g.looks }) (set ws i x))
        → ((found : ℕ) → after found ≡ view_lead me.0 y t)
        → Allows (Holds p) slots id me i (λ _. x) (λ _. Leaves after me x)
    store_lead_allowed slots id i x me y t after number seen log paced goes logs is_after s r _ at fits =
        let g = r.whole in let sound = r.seated.sound in
        let is = lead_is p s r id me.0 at number in
        let looks = ((r.seated.knows id me.0 at).is_driver number).2 in
        let ws : List ℕ = set s.words i x in
        let l = logs g s.words is looks sound r.activations r.events r.seated.long in (
          view_lead me.0 y t,
          keeps,
          tt,
          record {
            whole = record (with_lead g y) { past = l.0; inside = l.1; late = l.2; looks = g.looks };
            seated = seated_logs p (with_lead g y) ws _ l.0 l.1 l.2
                (lead_step p g s.words ws s.views id me.0 y t g.looks at (length-set s.words i x) number (seen ∙ looks)
                (subst AreOfNodes (sym seen) ((r.seated.knows id me.0 at).looks number)) r.seated);
            activations = act_logs (with_lead g y) ws l.0 l.1 l.2 g.looks (goes g s.words sound is r.activations);
            events = l.3;
            buffers = buffers_lead p g s.words ws y (wired_in p g s.words s.views r.seated)
                (subst (λ (z : DriverView). IsLeadPaced z y) is paced) (log_word p s.words i x log) r.buffers;
          },
          (sym (is_after x), refl),
        )

    -- a status word is loaded in a check
    pub look_allowed : (slots id n : ℕ) (me : Me S View) (after : ℕ → View) → me.0.number ≡ p.seats → me.0.lead.drive ≡ drives.Checking
        → n < nodes p → n ≢ p.driver
        → ((found : ℕ) → after found ≡ view_trail me.0 (record me.0.trail
        { looks = record { node = p.number n; word = found } ∷ me.0.trail.looks }))
        → Allows (Holds p) slots id me (status_place p.shape n) (λ k. k) (Leaves after me)
    look_allowed slots id n me after number phase inside follows is_after s r _ at fits =
        let g = r.whole in let sound = r.seated.sound in
        let is = lead_is p s r id me.0 at number in
        let drive : g.lead.drive ≡ drives.Checking = ap (λ (l : DriverView). l.drive) (sym is) ∙ phase in
        let looks = ((r.seated.knows id me.0 at).is_driver number).2 in
        let i : ℕ = status_place p.shape n in
        let found : ℕ = get_or s.words i 0 in
        let t : Trail = record me.0.trail { looks = record { node = p.number n; word = found } ∷ me.0.trail.looks } in
        let runs_on : is_resetting g.lead.drive ≡ true → ⊥ = λ z. true≢false (sym z ∙ ap is_resetting drive) in (
          view_trail me.0 t,
          keeps,
          tt,
          subst (λ (ws : List ℕ). Holds p record { words = ws; homes = s.homes; views = set s.views id (view_trail me.0 t) })
              (sym (set-get_or s.words i 0)) record {
                whole = record g { looks = t.looks };
                seated = look_step p g s.words s.views id me.0 t at number
                    (All-cons (λ (f : Found). f.node ≤ dummy_node) (record { node = p.number n; word = found }) me.0.trail.looks (sound.numbers n inside) ((r.seated.knows id me.0 at).looks number)) r.seated;
                activations = act_logs g s.words g.past g.inside g.late t.looks r.activations;
                buffers = r.buffers;
                events = subst (λ (fs : List Found). Events p
                    (record g { looks = record { node = p.number n; word = found } ∷ fs }) s.words)
                    (sym looks) (events_looked p g s.words sound r.activations r.events n found drive runs_on inside follows refl);
              },
          (sym (is_after found), refl),
        )
