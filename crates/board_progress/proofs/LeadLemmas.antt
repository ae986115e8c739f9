-- The driver's seat can take a step in each of its phases but Waiting, where its node waits to be triggered, and Running.
use Rattle.std.proofs.Common.{◌≡◌, ◌≢◌, ℕ, ◌<◌, ◌⊎◌, inl, inr, ⊎_elim, true, false, List}
use Rattle.std.proofs.Common.{refl, sym, ap, ◌∙◌, subst, arith, length, Option, get_or, Bool}
use Rattle.std.specs.Prelude.{Contains}
use mathlib.Core.Logic.{dite}
use native.Mathlib.Decide.{ℕ_discrete}
use Rattle.atomic_table.specs.Table.{State}
use Rattle.pw_graph.specs.declared.event.Event.TheVariants.{Begin, Tick, End}
use Rattle.pw_graph.specs.Layout.{event_count, ticket_place}
use Rattle.board_rule.specs.declared.view.View.{View}
use Rattle.board_rule.specs.declared.view.DriverView.{DriverView}
use Rattle.board_rule.specs.declared.view.DriverPhase.{DriverPhase}
use Rattle.board_rule.specs.declared.view.DriverPhase.TheVariants as drives
use Rattle.board_rule.specs.declared.view.Phase.TheVariants.{Running}
use Rattle.board_rule.specs.Layout.{BoardLayout, nodes}
use Rattle.board_rule.specs.View.{Whole}
use Rattle.board_rule.specs.Steps.{HasNode, CanKick, KickIndebted, reset_of}
use Rattle.board_rule.specs.BoardRule.{Holds}
use Rattle.board_rule.specs.activation.ActivationRule.{DriverPhaseOk}
use Rattle.board_rule.specs.events.EventSteps.{CanDrawLead, CanStoreLead, held_lead, looked_at, late_of}
use Rattle.board_rule.specs.events.Marks.{drive_started, drive_finished}
use Rattle.board_progress.specs.working.Order.{IsOrdered}
use Rattle.board_progress.specs.NodeAdvances.{NodeAdvances}
use Rattle.board_progress.specs.NodeAdvances.NodeAdvances.{stores_pending, stores_status, lowers, triggers, draws_ticket, stores_event, looks}
use Rattle.board_progress.specs.NodeAdvances.NodeAdvances.{stores_late}
use Rattle.board_progress.specs.Progress.{IsStaffed, IsUnfinished, SomeWork}
use Rattle.board_progress.specs.Progress.HasWork.{leads}
use Rattle.board_progress.specs.Moves.{Move}
use Rattle.board_progress.proofs.StaffedLemmas.{searched, LeadSeat, lead_seat, cycles_left, lead_start_room, lead_finish_room, lead_ticket_room}
use Rattle.board_progress.proofs.FollowerAdvancesLemmas.{node_moves}
use Rattle.board_progress.proofs.TickLemmas.{no_tick}
use Rattle.board_progress.proofs.WaitingLemmas.{waiting_advances}

contains_or : (x : ℕ) (xs : List ℕ) → Contains xs x ⊎ (Contains xs x → ⊥)
contains_or x xs = ⊎_elim (λ t. inl (t.0, t.1, t.2)) (λ none. inr (λ c. none c.0 c.1 c.2))
    (searched (λ i. get_or xs i x ≡ x) (λ i. dite (ℕ_discrete (get_or xs i x) x) (λ e. inl e) (λ e. inr e)) (length xs))

module _ (p : BoardLayout) (s : State (Option ℕ) View) (h : Holds p s) (staff : IsStaffed p s.views) (more : IsUnfinished p s.views) where
  abbrev g : Whole
  g = h.whole

  abbrev o : LeadSeat p s h staff
  o = lead_seat p s h staff

  pub lead_node : HasNode true p o.view p.driver
  lead_node = let low = h.activations.later in let high = cycles_left p s h staff more in
      let same : o.view.lead.cycle ≡ g.lead.cycle = ap (λ (x : DriverView). x.cycle) o.same in
      ((refl, o.number, o.owners), (omega arith, omega arith), h.seated.sound.driver_in)

  -- what the seat's view says of its phase
  drive_is : (d : DriverPhase) → g.lead.drive ≡ d → o.view.lead.drive ≡ d
  drive_is d is = ap (λ (x : DriverView). x.drive) o.same ∙ is

  goes : (d : DriverPhase) → g.lead.drive ≡ d → (d ≡ drives.Waiting → ⊥) → (x : Move) → NodeAdvances p s.words o.view x → SomeWork p s
  goes d is busy x a = let moving : o.view.lead.drive ≡ drives.Waiting → ⊥ = λ e. busy (sym (drive_is d is) ∙ e) in
      node_moves p s h staff more o.id o.view x o.at a (leads o.number moving) (no_tick p s.words o.view moving x a)

  can_draw : (d : DriverPhase) → g.lead.drive ≡ d → (d ≡ drives.Waiting → ⊥) → ((b : Bool) → b ≡ o.view.lead.checked → CanDrawLead b d) → SomeWork p s
  can_draw d is busy can = goes d is busy _ (draws_ticket true p.driver (get_or s.words ticket_place 0)
      (lead_node, subst (CanDrawLead o.view.lead.checked) (sym (drive_is d is)) (can o.view.lead.checked refl)) refl refl)

  can_store : (d : DriverPhase) → g.lead.drive ≡ d → (d ≡ drives.Waiting → ⊥) → CanStoreLead d → held_lead g.lead d < event_count p.shape → SomeWork p s
  can_store d is busy can room = goes d is busy _ (stores_event true p.driver (
    lead_node,
    subst CanStoreLead (sym (drive_is d is)) can,
    subst (λ (x : DriverView). held_lead x x.drive < event_count p.shape) (sym o.same)
        (subst (λ (y : DriverPhase). held_lead g.lead y < event_count p.shape) (sym is) room),
  ) refl)

  ok : (d : DriverPhase) → g.lead.drive ≡ d → DriverPhaseOk p d
  ok d is = subst (DriverPhaseOk p) is h.activations.drive

  -- a check: a follower that it has not looked at, or its late set
  checking : g.lead.drive ≡ drives.Checking → SomeWork p s
  checking is = ⊎_elim
      (λ t. goes drives.Checking is (λ e. (cc)) _
      (looks t.0 _ (lead_node, drive_is drives.Checking is, t.1, t.2.0, t.2.1) refl refl))
      (λ none. goes drives.Checking is (λ e. (cc)) _
      (stores_late (late_of o.view.lead.cycle o.view.trail.looks) (
        lead_node,
        drive_is drives.Checking is,
        refl,
        (λ n inside follows. ⊎_elim (λ e. e) (λ e. absurd (none n inside (follows, e))) (contains_or (p.number n) (looked_at o.view.trail.looks))),
      ) refl))
      (searched IsUnseen unseen_or (nodes p))
    where
      IsUnseen : ℕ → Type 0
      IsUnseen n = (n ≢ p.driver) × (Contains (looked_at o.view.trail.looks) (p.number n) → ⊥)

      unseen_or : (n : ℕ) → IsUnseen n ⊎ (IsUnseen n → ⊥)
      unseen_or n = dite (ℕ_discrete n p.driver) (λ e. inr (λ b. b.0 e))
          (λ e. ⊎_elim (λ c. inr (λ b. b.1 c)) (λ c. inl (e, c)) (contains_or (p.number n) (looked_at o.view.trail.looks)))

  module _ (order : IsOrdered p) (works : (n : ℕ) → n < nodes p → n ≢ p.driver → (g.nodes n).phase ≡ Running → SomeWork p s)
      (leads : g.lead.drive ≡ drives.Running → SomeWork p s) where
    pub lead_advances : (d : DriverPhase) → g.lead.drive ≡ d → SomeWork p s
    lead_advances drives.Between is = can_draw drives.Between is (λ e. (cc)) (λ b e. tt)
    lead_advances drives.BeginDrawn is = can_store drives.BeginDrawn is (λ e. (cc)) tt
        (lead_ticket_room p s h staff drives.BeginDrawn (Begin g.lead.cycle) is refl)
    lead_advances (drives.Reset i) is = let e : reset_of o.view.lead.drive ≡ i = ap reset_of (drive_is (drives.Reset i) is) in
        let low = ok (drives.Reset i) is in
        goes (drives.Reset i) is (λ e. (cc)) _ (stores_pending
        (lead_node, drive_is (drives.Reset i) is ∙ ap (λ k. drives.Reset k) (sym e), (omega arith)) refl)
    lead_advances (drives.Half i) is = let e : reset_of o.view.lead.drive ≡ i = ap reset_of (drive_is (drives.Half i) is) in
        let low = ok (drives.Half i) is in
        goes (drives.Half i) is (λ e. (cc)) _ (stores_status
        (lead_node, drive_is (drives.Half i) is ∙ ap (λ k. drives.Half k) (sym e), (omega arith)) refl)
    lead_advances (drives.Kick i true) is = let t = ok (drives.Kick i true) is in let low = t.0 in let high = t.1 in
        goes (drives.Kick i true) is (λ e. (cc)) _ (triggers true p.driver
        (lead_node, subst (KickIndebted (length (p.targets p.driver))) (sym (drive_is (drives.Kick i true) is)) (low, (omega arith))) refl)
    lead_advances (drives.Kick i false) is = let t = ok (drives.Kick i false) is in
        goes (drives.Kick i false) is (λ e. (cc)) _ (lowers true p.driver _
        (lead_node, subst (CanKick (length (p.targets p.driver))) (sym (drive_is (drives.Kick i false) is)) t) refl refl)
    lead_advances drives.Waiting is = waiting_advances p s h staff more order is works
    lead_advances drives.Checking is = checking is
    lead_advances drives.LateStored is = can_store drives.LateStored is (λ e. (cc)) tt
        (lead_ticket_room p s h staff drives.LateStored (Tick g.lead.cycle g.late) is refl)
    lead_advances drives.Awake is = can_draw drives.Awake is (λ e. (cc)) (λ b e. tt)
    lead_advances drives.StartDrawn is = can_store drives.StartDrawn is (λ e. (cc)) tt (lead_start_room p s h staff (ap drive_started is))
    lead_advances drives.Running is = leads is
    lead_advances drives.Done is = can_draw drives.Done is (λ e. (cc)) (λ b e. tt)
    lead_advances drives.FinishDrawn is = can_store drives.FinishDrawn is (λ e. (cc)) tt (lead_finish_room p s h staff (ap drive_finished is))
    lead_advances drives.FinishStored is = can_draw drives.FinishStored is (λ e. (cc)) (λ b e. tt)
    lead_advances drives.EndDrawn is = can_store drives.EndDrawn is (λ e. (cc)) tt
        (lead_ticket_room p s h staff drives.EndDrawn (End g.lead.cycle) is refl)
