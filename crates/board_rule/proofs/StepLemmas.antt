-- Each kind of step, as its call requires and ensures.
use Rattle.std.proofs.Common.{arith, ◌≡◌, ℕ, ◌+◌, ◌-◌, ◌%◌, ◌^◌, ◌<◌, Bool, true, false, cond, eqb, length, get_or, refl, sym, ap}
use Rattle.std.proofs.Common.{◌∙◌, subst, eq-eqb, ne_eqb}
use prog.Atomic.{either}
use Rattle.atomic_table.specs.Table.{Me, Allows}
use Rattle.board_rule.specs.declared.view.DriverPhase.TheVariants as drives
use Rattle.board_rule.specs.declared.view.Phase.{Phase}
use Rattle.board_rule.specs.declared.view.Phase.TheVariants.{Idle, Awake, StartDrawn, Running, Done, FinishDrawn, Telling}
use Rattle.board_rule.specs.declared.view.View.{View}
use Rattle.pw_graph.specs.declared.event.Event.TheVariants.{Start, Finish}
use Rattle.pw_graph.specs.EventWords.{event_word_of}
use Rattle.pw_graph.specs.Layout.{pending_place, status_place, late_place, event_place, event_count}
use Rattle.pw_graph.specs.Words.{awake_word, finished_word, not_triggered_word, triggered_word}
use Rattle.board_rule.specs.Layout.{BoardLayout, first}
use Rattle.board_rule.specs.View.{node_of, view_node, view_lead}
use Rattle.board_rule.specs.BoardRule.{Holds}
use Rattle.board_rule.specs.Steps.{Has, taken, taken_of, lowered_of, settled, kicked, told_trail, target_of, Lowers, lowered, Triggers}
use Rattle.board_rule.specs.Steps.{triggered, Claims, claimed, woken, tried, cycle_of, IsGivenOn, IsReadyToFinish, finished, untold}
use Rattle.board_rule.specs.Steps.{StoresPending, pending_stored, StoresStatus, status_stored, reset_of}
use Rattle.board_rule.specs.events.EventSteps.{Draws, draws, CanDraw, node_draws, lead_draws, draw_trail, StoresEvent, event_stored, CanStore}
use Rattle.board_rule.specs.events.EventSteps.{stored_phase, lead_stores, held, held_lead, ticket_of, node_tells, lead_tells, event_due, Looks}
use Rattle.board_rule.specs.events.EventSteps.{looked, StoresLate, late_kept, late_stored}
use Rattle.board_rule.specs.working.Plays.{Leaves, Learns}
use Rattle.board_rule.proofs.activation.PhaseLemmas.{can_tell, in_debt}
use Rattle.board_rule.proofs.activation.FollowerLemmas.{lower_allowed, trigger_allowed}
use Rattle.board_rule.proofs.activation.WorkStepsLemmas.{stores_start, stores_finish, finish_allowed, later_is_other}
use Rattle.board_rule.proofs.events.EventLemmas.{start_logged, finish_logged}
use Rattle.board_rule.proofs.EventStepsLemmas.{draw_start_allowed, draw_finish_allowed, store_allowed, draw_lead_allowed, store_lead_allowed}
use Rattle.board_rule.proofs.EventStepsLemmas.{look_allowed}
use Rattle.board_rule.proofs.activation.ClaimLemmas.{claim_allowed}
use Rattle.board_rule.proofs.DriverLemmas.{kick_allowed, kick_trigger_allowed, can_kick, kick_in_debt}
use Rattle.board_rule.proofs.activation.ResetLemmas.{store_pending_allowed, store_not_triggered_allowed}
use Rattle.board_rule.proofs.activation.CycleLemmas.{finish_lead_allowed, claim_lead_allowed}
use Rattle.board_rule.proofs.buffers.SpanLemmas.{IsLogWord, draws_paced, stores_paced, drive_paced}
use Rattle.board_rule.proofs.LeadDrawsLemmas.{draws_more, draws_looks, draws_goes, draws_logs, stores_goes, stores_logs, late_goes, late_logs}

module _ (p : BoardLayout) {S : Type 0} (slots id : ℕ) (me : Me S View) (after : ℕ → View) where
  pub lowers : (says : ℕ → Type 0) (b : Bool) (m n : ℕ) → Lowers b p me.0 m → get_or (p.targets m) (taken b me.0 m) 0 ≡ n
      → ((found : ℕ) → after found ≡ lowered b p me.0 m found)
      → ((found : ℕ) → 0 < found → says found)
      → Allows (Holds p) slots id me (pending_place p.shape n) (λ w. (w + (2 ^ 64 - 1)) % 2 ^ 64) (Learns after says me)
  lowers says true m n h target tells it = let e = h.0.0.0 in let can = can_kick (length (p.targets m)) me.0.lead.drive h.1 in
      kick_allowed p slots id (taken_of me.0.lead.drive) n me (λ found. told_trail me.0.trail (target_of true p me.0 m) found) after says h.0.0.1
      (λ found. refl) can.0 (subst (λ k. taken_of me.0.lead.drive < length (p.targets k)) e can.1)
      (sym (ap (λ k. get_or (p.targets k) (taken_of me.0.lead.drive) 0) e) ∙ target)
      (λ found. tells found ∙ ap (λ k. view_lead me.0
      (record me.0.lead { drive = kicked (length (p.targets k)) (taken_of me.0.lead.drive + 1) (eqb found 1) })
      (told_trail me.0.trail (target_of true p me.0 m) found)) e) it
  lowers says false m n h target tells it = let can = can_tell (length (p.targets m)) (node_of me.0 m).phase h.1 in
      lower_allowed p slots id m (lowered_of (node_of me.0 m).phase) n me
      (λ found. told_trail me.0.trail (target_of false p me.0 m) found) after says h.0.0 can.0 can.1 target tells it

  pub triggers : (b : Bool) (m n : ℕ) → Triggers b p me.0 m → get_or (p.targets m) (taken b me.0 m - 1) 0 ≡ n
      → ((found : ℕ) → after found ≡ triggered b p me.0 m)
      → Allows (Holds p) slots id me (status_place p.shape n) (λ _. triggered_word (cycle_of b me.0 m))
      (λ _. Leaves after me (triggered_word (cycle_of b me.0 m)))
  triggers true m n h target tells = let e = h.0.0.0 in let debt = kick_in_debt (length (p.targets m)) me.0.lead.drive h.1 in
      kick_trigger_allowed p slots id (taken_of me.0.lead.drive - 1) n me me.0.trail after h.0.0.1 refl debt.0
      (sym (ap (λ k. get_or (p.targets k) (taken_of me.0.lead.drive - 1) 0) e) ∙ target)
      (λ found. tells found ∙ (λ i. view_lead me.0 (record me.0.lead { drive = kicked (length (p.targets (e i))) (sym debt.1 i) false })
      me.0.trail))
  triggers false m n h target tells = let x = node_of me.0 m in let debt = in_debt (length (p.targets m)) x.phase h.1 in
      trigger_allowed p slots id m (lowered_of x.phase - 1) n me me.0.trail after h.0.0 debt.0 target
      (λ found. tells found ∙ ap (λ k. view_node me.0 m (settled (length (p.targets m)) x k false) me.0.trail) (sym debt.1))

  hit : (b : Bool) (m w : ℕ) → cond (eqb w w) (woken b me.0 m) (tried p me.0 m w) ≡ woken b me.0 m
  hit b m w = ap (λ k. cond k (woken b me.0 m) (tried p me.0 m w)) (eq-eqb w w refl)

  miss : (b : Bool) (m w found : ℕ) → (found ≡ w → ⊥) → cond (eqb found w) (woken b me.0 m) (tried p me.0 m found) ≡ tried p me.0 m found
  miss b m w found o = ap (λ k. cond k (woken b me.0 m) (tried p me.0 m found)) (ne_eqb found w o)

  pub claims : (b : Bool) (m : ℕ) → Claims b p me.0 m → ((found : ℕ) → after found ≡ claimed b p me.0 m found)
      → Allows (Holds p) slots id me (status_place p.shape m)
      (λ w. either (eqb w (triggered_word (cycle_of b me.0 m))) (awake_word (cycle_of b me.0 m)) w) (Leaves after me)
  claims true m h tells = let c = me.0.lead.cycle in
      subst (λ k. Allows (Holds p) slots id me (status_place p.shape k) (λ w. either (eqb w (triggered_word c)) (awake_word c) w)
      (Leaves after me)) (sym h.0.0.0)
      (claim_lead_allowed p slots id me after me.0.trail (λ found. (tried p me.0 m found).trail) h.0.0.1 refl (λ found. refl) h.1
      (tells (triggered_word c) ∙ hit true m (triggered_word c))
      (λ found o. tells found ∙ miss true m (triggered_word c) found o))
  claims false m h tells = let c = (node_of me.0 m).next in
      claim_allowed p slots id m me after me.0.trail (λ found. (tried p me.0 m found).trail) h.0.0 h.1
      (tells (triggered_word c) ∙ hit false m (triggered_word c))
      (λ found o. tells found ∙ miss false m (triggered_word c) found o) (λ found. refl)

  pub finishes : (b : Bool) (m : ℕ) → IsReadyToFinish b p me.0 m → ((found : ℕ) → after found ≡ finished b me.0 m)
      → Allows (Holds p) slots id me (status_place p.shape m) (λ _. finished_word (cycle_of b me.0 m))
      (λ _. Leaves after me (finished_word (cycle_of b me.0 m)))
  finishes true m h tells = subst (λ k. Allows (Holds p) slots id me (status_place p.shape k) (λ _. finished_word me.0.lead.cycle)
      (λ _. Leaves after me (finished_word me.0.lead.cycle))) (sym h.0.0.0)
      (finish_lead_allowed p slots id me (untold me.0.trail) after h.0.0.1 refl h.1
      (subst (λ k. IsGivenOn p me.0 k me.0.lead.cycle) h.0.0.0 h.2) tells)
  finishes false m h tells = finish_allowed p slots id m me (untold me.0.trail) after h.0.0 h.1 h.2 tells

  pub stores_pending : (n : ℕ) → StoresPending p me.0 → n ≡ reset_of me.0.lead.drive → ((found : ℕ) → after found ≡ pending_stored me.0)
      → Allows (Holds p) slots id me (pending_place p.shape n) (λ _. p.required n) (λ _. Leaves after me (p.required n))
  stores_pending n h is tells = subst (λ k. Allows (Holds p) slots id me (pending_place p.shape k) (λ _. p.required k)
      (λ _. Leaves after me (p.required k))) (sym is)
      (store_pending_allowed p slots id (reset_of me.0.lead.drive) me me.0.trail after h.0.0.1 refl h.1 tells)

  pub stores_status : (n : ℕ) → StoresStatus p me.0 → n ≡ reset_of me.0.lead.drive → ((found : ℕ) → after found ≡ status_stored p me.0)
      → Allows (Holds p) slots id me (status_place p.shape n) (λ _. not_triggered_word me.0.lead.cycle)
      (λ _. Leaves after me (not_triggered_word me.0.lead.cycle))
  stores_status n h is tells = subst (λ k. Allows (Holds p) slots id me (status_place p.shape k) (λ _. not_triggered_word me.0.lead.cycle)
      (λ _. Leaves after me (not_triggered_word me.0.lead.cycle))) (sym is)
      (store_not_triggered_allowed p slots id (reset_of me.0.lead.drive) me me.0.trail after h.0.0.1 refl h.1 tells)

  draws_by : (m : ℕ) (f : Phase) (says : ℕ → Type 0) → Has p me.0 m → (node_of me.0 m).phase ≡ f → CanDraw f
      → ((found : ℕ) → after found ≡ view_node me.0 m (node_draws (node_of me.0 m) found f) me.0.trail)
      → ((found : ℕ) → found < event_count p.shape → says found)
      → Allows (Holds p) slots id me 0 (λ w. (w + 1) % 2 ^ 64) (Learns after says me)
  draws_by m Idle says has e can tells said = absurd can
  draws_by m Awake says has e can tells said = draw_start_allowed p slots id m me after says has e tells said
  draws_by m StartDrawn says has e can tells said = absurd can
  draws_by m Running says has e can tells said = absurd can
  draws_by m Done says has e can tells said = draw_finish_allowed p slots id m me after says has e tells said
  draws_by m FinishDrawn says has e can tells said = absurd can
  draws_by m (Telling i o) says has e can tells said = absurd can

  pub draws_ticket : (b : Bool) (m : ℕ) (says : ℕ → Type 0) → Draws b p me.0 m → ((found : ℕ) → after found ≡ draws b me.0 m found)
      → ((found : ℕ) → found < event_count p.shape → says found)
      → Allows (Holds p) slots id me 0 (λ w. (w + 1) % 2 ^ 64) (Learns after says me)
  draws_ticket true m says h tells said = draw_lead_allowed p slots id me (λ found. lead_draws me.0.lead found me.0.lead.drive)
      (draw_trail me.0.trail me.0.lead.drive) after says h.0.0.1 (draws_looks me.0.trail me.0.lead.drive)
      (λ g ws is a k. draws_goes p g ws me.0.lead is a me.0.lead.drive k refl h.1 h.0.1.1)
      (λ k. draws_more me.0.lead me.0.lead.drive k refl h.1) (λ k. draws_paced me.0.lead me.0.lead.drive k refl h.1)
      (λ g ws is looks sound a e wide room. draws_logs p g ws me.0.lead me.0.trail.looks is looks sound a e wide room me.0.trail
      me.0.lead.drive refl refl h.1) tells said
  draws_ticket false m says h tells said = draws_by m (node_of me.0 m).phase says h.0.0 refl h.1 tells said

  stores_by : (m : ℕ) (f : Phase) → Has p me.0 m → (node_of me.0 m).phase ≡ f → CanStore f → held (node_of me.0 m) f < event_count p.shape
      → ((found : ℕ) → after found ≡ view_node me.0 m (record (node_of me.0 m) { phase = stored_phase f }) me.0.trail)
      → Allows (Holds p) slots id me (event_place p.shape (held (node_of me.0 m) f))
      (λ _. event_word_of (node_tells (node_of me.0 m) (p.number m) f))
      (λ _. Leaves after me (event_word_of (node_tells (node_of me.0 m) (p.number m) f)))
  stores_by m Idle has e can near tells = absurd can
  stores_by m Awake has e can near tells = absurd can
  stores_by m StartDrawn has e can near tells = store_allowed p slots id m (node_of me.0 m).start me StartDrawn Running
      (λ c. Start c (p.number m)) after has stores_start e refl refl refl refl (omega arith) refl refl near
      (λ s r at same phase. start_logged p r.whole m (node_of me.0 m) s.words has.follows has.inside same phase r.activations r.events)
      tells
  stores_by m Running has e can near tells = absurd can
  stores_by m Done has e can near tells = absurd can
  stores_by m FinishDrawn has e can near tells = store_allowed p slots id m (node_of me.0 m).finish me FinishDrawn (Telling 0 false)
      (λ c. Finish c (p.number m)) after has stores_finish e refl refl refl refl (omega arith) refl refl near
      (λ s r at same phase. finish_logged p r.whole m (node_of me.0 m) s.words has.follows has.inside same phase r.activations r.events)
      tells
  stores_by m (Telling j o) has e can near tells = absurd can

  pub stores_event : (b : Bool) (m : ℕ) → StoresEvent b p me.0 m → ((found : ℕ) → after found ≡ event_stored b me.0 m)
      → Allows (Holds p) slots id me (event_place p.shape (ticket_of b me.0 m)) (λ _. event_word_of (event_due b p me.0 m))
      (λ _. Leaves after me (event_word_of (event_due b p me.0 m)))
  stores_event true m h tells = subst (λ n. Allows (Holds p) slots id me (event_place p.shape (held_lead me.0.lead me.0.lead.drive))
      (λ _. event_word_of (lead_tells me.0.lead (p.number n) me.0.lead.drive))
      (λ _. Leaves after me (event_word_of (lead_tells me.0.lead (p.number n) me.0.lead.drive)))) (sym h.0.0.0)
      (store_lead_allowed p slots id (event_place p.shape (held_lead me.0.lead me.0.lead.drive))
      (event_word_of (lead_tells me.0.lead (p.number p.driver) me.0.lead.drive)) me
      (lead_stores me.0.lead me.0.lead.drive) me.0.trail after h.0.0.1 refl
      (let near = h.2 in let z : IsLogWord p (event_place p.shape (held_lead me.0.lead me.0.lead.drive)) = (omega arith, omega arith) in
      z) (stores_paced me.0.lead me.0.lead.drive refl h.1)
      (λ g ws sound is a. stores_goes p g ws me.0.lead is a me.0.lead.drive (event_place p.shape (held_lead me.0.lead me.0.lead.drive))
      (event_word_of (lead_tells me.0.lead (p.number p.driver) me.0.lead.drive)) sound refl h.1
      (later_is_other p (event_place p.shape (held_lead me.0.lead me.0.lead.drive)) (omega arith)))
      (λ g ws is looks sound a e long. stores_logs p g ws me.0.lead me.0.trail.looks is looks sound a e long me.0.lead.drive refl h.1 h.2
      h.0.1.1) tells)
  stores_event false m h tells = stores_by m (node_of me.0 m).phase h.0.0 refl h.1 h.2 tells

  pub looks_at : (n : ℕ) → Looks p me.0 n → ((found : ℕ) → after found ≡ looked p me.0 n found)
      → Allows (Holds p) slots id me (status_place p.shape n) (λ w. w) (Leaves after me)
  looks_at n h tells = look_allowed p slots id n me after h.0.0.1 h.1 h.2 h.3 tells

  pub stores_late : (late past : ℕ) → StoresLate p me.0 late → first p + past ≡ me.0.lead.cycle
      → ((found : ℕ) → after found ≡ late_stored me.0)
      → Allows (Holds p) slots id me (late_place p.shape past) (λ _. late) (λ _. Leaves after me late)
  stores_late late past h is tells = let k : me.0.lead.cycle - first p ≡ past = omega arith in
      subst (λ n. Allows (Holds p) slots id me (late_place p.shape n) (λ _. late) (λ _. Leaves after me late)) k
      (store_lead_allowed p slots id (late_place p.shape (me.0.lead.cycle - first p)) late me
      (late_kept me.0.lead me.0.trail.looks) me.0.trail after h.0.0.1 refl
      (let near = h.0.1.1 in let z : IsLogWord p (late_place p.shape (me.0.lead.cycle - first p)) = (omega arith, omega arith) in z)
      (drive_paced me.0.lead drives.Checking (late_kept me.0.lead me.0.trail.looks) h.1 refl refl (omega arith))
      (λ g ws sound is a. late_goes p g ws me.0.lead is a (late_place p.shape (me.0.lead.cycle - first p)) late me.0.trail.looks h.1
      (later_is_other p (late_place p.shape (me.0.lead.cycle - first p)) (omega arith)))
      (λ g ws is looks sound a e long. late_logs p g ws me.0.lead me.0.trail.looks is looks sound a e long late h.1 h.0.1.1 h.2) tells)
