-- The seats of a board that is staffed: whose view has a node, and that a ticket which is held has a word.
use Rattle.std.proofs.Common.{◌≡◌, ◌≢◌, ℕ, zero, suc, ◌<◌, ◌≤◌, cond, eqb, List, [], ◌∷◌, length, refl, sym, ap, ◌∙◌}
use Rattle.std.proofs.Common.{◌++◌, subst, arith, eq-eqb, ne_eqb, Option, get_or, Some, ⊎_elim, ◌⊎◌, inl, inr}
use Rattle.std.specs.Prelude.{Contains, slice_get}
use Rattle.std.proofs.lemmas.Option.{slice_get_within}
use mathlib.Core.Logic.{dite}
use mathlib.Core.Option.{some, some-ne-none}
use native.Mathlib.Decide.{ℕ_discrete}
use lib.ListN.{get_elem?}
use Rattle.atomic_table.specs.Table.{State}
use Rattle.pw_graph.specs.Layout.{event_count}
use Rattle.pw_graph.specs.declared.event.Event.{Event}
use Rattle.board_rule.specs.declared.view.View.{View}
use Rattle.board_rule.specs.declared.view.DriverView.{DriverView}
use Rattle.board_rule.specs.declared.view.DriverPhase.{DriverPhase}
use Rattle.board_rule.specs.Layout.{BoardLayout, nodes, last}
use Rattle.board_rule.specs.View.{Whole, node_of, idle}
use Rattle.board_rule.specs.Steps.{Has}
use Rattle.board_rule.specs.BoardRule.{Holds}
use Rattle.board_rule.specs.start.Owners.{owners_of}
use Rattle.board_rule.specs.events.EventRule.{so_far, marks}
use Rattle.board_rule.specs.events.Marks.{phase_started, phase_finished, drive_started, drive_finished, drive_tells}
use Rattle.board_rule.proofs.buffers.HolderLemmas.{got}
use Rattle.board_rule.proofs.events.TicketLemmas.{few_tickets}
use Rattle.board_progress.specs.Progress.{IsStaffed, IsUnfinished}

pub within : {A : Type 0} (l : List A) (i : ℕ) (a : A) → get_elem? l i ≡ some a → i < length l
within [] i a e = absurd (some-ne-none a (sym e))
within (x ∷ xs) zero a e = omega arith
within (x ∷ xs) (suc i) a e = let h = within xs i a e in omega arith

-- some number below k has it, or no number has
pub searched : (P : ℕ → Type 0) → ((n : ℕ) → P n ⊎ (P n → ⊥)) → (k : ℕ) → ((n : ℕ) × (n < k) × P n) ⊎ ((n : ℕ) → n < k → P n → ⊥)
searched P decide zero = inr (λ n h. absurd (omega arith))
searched P decide (suc k) = ⊎_elim (λ here. inl (k, (let z : k < suc k = omega arith in z), here))
    (λ none. ⊎_elim (λ t. inl (t.0, (let a = t.1 in omega arith), t.2))
    (λ before. inr (λ n h x. dite (ℕ_discrete n k) (λ e. none (subst P e x)) (λ o. before n (omega arith) x))) (searched P decide k)) (decide k)

module _ (p : BoardLayout) (s : State (Option ℕ) View) (h : Holds p s) (staff : IsStaffed p s.views) where
  abbrev g : Whole
  g = h.whole

  -- once the driver's seat has split off all seats, they are there
  present : (k : ℕ) → k ≤ p.seats → (i : ℕ) × (v : View) × (get_elem? s.views i ≡ some v) × (v.number ≡ k)
  present k low = let is = ((h.seated.knows staff.0 staff.1 staff.2).is_driver staff.3).1 in let all = staff.4 in
      let r = h.seated.present (omega arith) k low (λ lt. omega arith) in (g.seat_at k, r.0, r.1, r.2)

  -- the seat that has a follower
  pub record SeatOf (n : ℕ) : Type 0 where
    pub id : ℕ
    pub view : View
    pub at : get_elem? s.views id ≡ some view
    pub has : Has p view n
    pub same : node_of view n ≡ g.nodes n

  pub seat_of : (n : ℕ) → n < nodes p → n ≢ p.driver → SeatOf n
  seat_of n inside follows = let low = h.seated.sound.seats_in n inside follows in
      let t = present (p.seat_of n) (omega arith) in let v : View = t.1 in let number = t.3 in
      let k = h.seated.knows t.0 v t.2 in let there = k.owns n inside follows (sym number) in
      let is : node_of v n ≡ g.nodes n = got v.nodes n (g.nodes n) (idle 0) there in
      record {
        id = t.0;
        view = v;
        at = t.2;
        has = record {
          inside = inside;
          follows = follows;
          loops = omega arith;
          owned = sym number;
          there = within v.nodes n (g.nodes n) there;
          knows = there ∙ ap some (sym is);
          owners = k.owners (omega arith);
        };
        same = is;
      }

  -- the driver's seat
  pub record LeadSeat : Type 0 where
    pub id : ℕ
    pub view : View
    pub at : get_elem? s.views id ≡ some view
    pub number : view.number ≡ p.seats
    pub same : view.lead ≡ g.lead
    pub looks : view.trail.looks ≡ g.looks
    pub owners : view.owners ≡ owners_of p

  pub lead_seat : LeadSeat
  lead_seat = let t = present p.seats (omega arith) in let v : View = t.1 in let number = t.3 in
      let is = (h.seated.knows t.0 v t.2).is_driver number in record {
        id = t.0;
        view = v;
        at = t.2;
        number = number;
        same = is.0;
        looks = is.2;
        owners = (h.seated.knows t.0 v t.2).owners (omega arith);
      }

  -- it has cycles left, so a node in the driver's cycle has
  pub cycles_left : IsUnfinished p s.views → g.lead.cycle < last p
  cycles_left more = let l = lead_seat in subst (λ (x : DriverView). x.cycle < last p) l.same (more l.id l.view l.at l.number)

  -- a ticket of the log has a word
  logged : (t : ℕ) (e : Event) → slice_get (g.past ++ so_far (marks p g) g.lead.cycle g.inside) t ≡ Some e
      → t < event_count p.shape
  logged t e at = let lt = slice_get_within _ t e at in let d = h.events.tickets.drawn in
      let few = few_tickets p g (get_or s.words 0 0) s.words h.seated.sound h.activations h.events.count in omega arith

  pub start_room : (n : ℕ) → n < nodes p → n ≢ p.driver → (g.nodes n).next ≡ g.lead.cycle → phase_started (g.nodes n).phase ≡ 1
      → (g.nodes n).start < event_count p.shape
  start_room n inside follows now one = let mark = h.events.tickets.starts_kept n inside
      (ap (λ b. cond b (drive_started g.lead.drive) (cond (eqb (g.nodes n).next g.lead.cycle) (phase_started (g.nodes n).phase) 1)) (ne_eqb n p.driver follows)
      ∙ ap (λ b. cond b (phase_started (g.nodes n).phase) 1) (eq-eqb (g.nodes n).next g.lead.cycle now) ∙ one) in
      let is : (marks p g).start n ≡ (g.nodes n).start = ap (λ b. cond b g.lead.start (g.nodes n).start) (ne_eqb n p.driver follows) in
      subst (λ t. t < event_count p.shape) is (logged ((marks p g).start n) _ mark.1)

  pub finish_room : (n : ℕ) → n < nodes p → n ≢ p.driver → (g.nodes n).next ≡ g.lead.cycle → phase_finished (g.nodes n).phase ≡ 1
      → (g.nodes n).finish < event_count p.shape
  finish_room n inside follows now one = let mark = h.events.tickets.finishes_kept n inside
      (ap (λ b. cond b (drive_finished g.lead.drive) (cond (eqb (g.nodes n).next g.lead.cycle) (phase_finished (g.nodes n).phase) 1)) (ne_eqb n p.driver follows)
      ∙ ap (λ b. cond b (phase_finished (g.nodes n).phase) 1) (eq-eqb (g.nodes n).next g.lead.cycle now) ∙ one) in
      let is : (marks p g).finish n ≡ (g.nodes n).finish = ap (λ b. cond b g.lead.finish (g.nodes n).finish) (ne_eqb n p.driver follows) in
      subst (λ t. t < event_count p.shape) is (logged ((marks p g).finish n) _ mark.1)

  -- those of the driver's seat
  pub lead_start_room : drive_started g.lead.drive ≡ 1 → g.lead.start < event_count p.shape
  lead_start_room one = let mark = h.events.tickets.starts_kept p.driver h.seated.sound.driver_in
      (ap (λ b. cond b (drive_started g.lead.drive) (cond (eqb (g.nodes p.driver).next g.lead.cycle) (phase_started (g.nodes p.driver).phase) 1))
      (eq-eqb p.driver p.driver refl) ∙ one) in
      let is : (marks p g).start p.driver ≡ g.lead.start = ap (λ b. cond b g.lead.start (g.nodes p.driver).start) (eq-eqb p.driver p.driver refl) in
      subst (λ t. t < event_count p.shape) is (logged ((marks p g).start p.driver) _ mark.1)

  pub lead_finish_room : drive_finished g.lead.drive ≡ 1 → g.lead.finish < event_count p.shape
  lead_finish_room one = let mark = h.events.tickets.finishes_kept p.driver h.seated.sound.driver_in
      (ap (λ b. cond b (drive_finished g.lead.drive) (cond (eqb (g.nodes p.driver).next g.lead.cycle) (phase_finished (g.nodes p.driver).phase) 1))
      (eq-eqb p.driver p.driver refl) ∙ one) in
      let is : (marks p g).finish p.driver ≡ g.lead.finish = ap (λ b. cond b g.lead.finish (g.nodes p.driver).finish) (eq-eqb p.driver p.driver refl) in
      subst (λ t. t < event_count p.shape) is (logged ((marks p g).finish p.driver) _ mark.1)

  pub lead_ticket_room : (d : DriverPhase) (e : Event) → g.lead.drive ≡ d → drive_tells g.lead g.late d ≡ (g.lead.ticket, e) ∷ []
      → g.lead.ticket < event_count p.shape
  lead_ticket_room d e is tells = let there : Contains (drive_tells g.lead g.late g.lead.drive) (g.lead.ticket, e) =
      subst (λ (l : List (ℕ × Event)). Contains l (g.lead.ticket, e)) (sym (ap (drive_tells g.lead g.late) is ∙ tells)) (0, (let z : 0 < 1 = omega arith in z), refl) in
      logged g.lead.ticket e (h.events.tickets.told_kept g.lead.ticket e there).1
