-- After an advance, and after a step in vain, the rule holds: each is a kind of step that keeps it.
use Rattle.std.proofs.Common.{◌≡◌, ℕ, ◌+◌, ◌-◌, ◌%◌, ◌^◌, ◌<◌, ⊎_elim, cond, [], length, get_or, refl, sym, ap, ◌∙◌}
use Rattle.std.proofs.Common.{subst, arith, eq-eqb, ne_eqb, Option}
use mathlib.Core.Option.{some}
use lib.ListN.{get_elem?}
use prog.Atomic.{either}
use Rattle.atomic_table.specs.Table.{State, Act, keeps, stepped}
use Rattle.pw_graph.specs.Layout.{pending_place, status_place, ticket_place, event_count, late_place, io_place, readers_place, sample_place}
use Rattle.pw_graph.specs.Words.{triggered_word, awake_word}
use Rattle.board_rule.specs.declared.view.View.{View}
use Rattle.board_rule.specs.Layout.{BoardLayout, first}
use Rattle.board_rule.specs.BoardRule.{Holds}
use Rattle.board_rule.specs.Steps.{reset_of, pending_stored, status_stored, lowered, triggered, claimed, woken, tried, finished, cycle_of}
use Rattle.board_rule.specs.events.EventSteps.{draws, event_stored, looked, late_stored}
use Rattle.board_rule.specs.buffers.EndViews.{pool_of, reader_of}
use Rattle.board_rule.specs.buffers.WriterSteps.{write_area, loaded_as_writer, have_stored}
use Rattle.board_rule.specs.buffers.BlockSteps.{sample_stored, readers_stored}
use Rattle.board_rule.specs.buffers.ReclaimSteps.{readers_loaded}
use Rattle.board_rule.specs.buffers.ReaderSteps.{words_read_of, read_area, loaded_as_reader, sample_loaded, readers_lowered, need_stored}
use Rattle.board_rule.proofs.StepLemmas as steps
use Rattle.board_rule.proofs.buffers.HolderLemmas.{now_running}
use Rattle.board_rule.proofs.buffers.WriterStepLemmas.{load_writer_allowed, store_have_allowed, load_readers_allowed, store_sample_allowed, store_readers_allowed}
use Rattle.board_rule.proofs.buffers.ReaderStepLemmas.{load_reader_allowed, store_need_allowed, load_sample_allowed, lower_readers_allowed}
use Rattle.board_progress.specs.Moves.{Move, moved}
use Rattle.board_progress.specs.NodeAdvances.{NodeAdvances, next_target, last_target}
use Rattle.board_progress.specs.NodeAdvances.NodeAdvances.{stores_pending, stores_status, lowers, triggers, claims, finishes, draws_ticket, stores_event}
use Rattle.board_progress.specs.NodeAdvances.NodeAdvances.{looks, stores_late}
use Rattle.board_progress.specs.BufferAdvances.{BufferAdvances}
use Rattle.board_progress.specs.BufferAdvances.BufferAdvances.{loads_as_writer, loads_readers, stores_sample, stores_readers, stores_have}
use Rattle.board_progress.specs.BufferAdvances.BufferAdvances.{loads_as_reader, loads_sample, lowers_readers, stores_need}
use Rattle.board_progress.specs.Progress.{Advances}
use Rattle.board_progress.specs.VainSteps.{VainSteps}
use Rattle.board_progress.specs.VainSteps.VainSteps.{claims_early, loads_again}

less_by : (n w : ℕ) → 0 < n → n < 18446744073709551616 → (n + (2 ^ 64 - 1)) % 2 ^ 64 ≡ n - 1
less_by n w more fits = omega arith

more_by : (n : ℕ) → n < 18446744073709551615 → (n + 1) % 2 ^ 64 ≡ n + 1
more_by n fits = omega arith

module _ (p : BoardLayout) where
  -- the rule does not speak of slots
  settle : (s : State (Option ℕ) View) (id place word new : ℕ) (w u : View) (a : Act (Option ℕ)) → Holds p (stepped s place word id [] w a)
      → w ≡ u → word ≡ new → Holds p (moved s id record { place = place; word = new; view = u })
  settle s id place word new w u a h e f = subst (λ (z : ℕ × View). Holds p (stepped s place z.0 id [] z.1 keeps)) (λ i. (f i, e i)) record {
    whole = h.whole;
    seated = h.seated;
    activations = h.activations;
    events = h.events;
    buffers = h.buffers;
  }

  module _ (s : State (Option ℕ) View) (h : Holds p s) (fit : (i : ℕ) → get_or s.words i 0 < 18446744073709551616) (id : ℕ) (v : View)
      (at : get_elem? s.views id ≡ some v) where
    abbrev Kept : Move → Type 0
    Kept x = Holds p (moved s id x)

    node_keeps : (x : Move) → NodeAdvances p s.words v x → Kept x
    node_keeps x (stores_pending may e) = let i : ℕ = pending_place p.shape (reset_of v.lead.drive) in
        let r = steps.stores_pending p (length s.homes) id (v, []) (λ _. pending_stored v) (reset_of v.lead.drive) may refl (λ _. refl) s h refl at (fit i) in
        subst Kept (sym e) (settle s id i _ _ r.0 _ r.1 r.3 r.4.0 refl)
    node_keeps x (stores_status may e) = let i : ℕ = status_place p.shape (reset_of v.lead.drive) in
        let r = steps.stores_status p (length s.homes) id (v, []) (λ _. status_stored p v) (reset_of v.lead.drive) may refl (λ _. refl) s h refl at (fit i) in
        subst Kept (sym e) (settle s id i _ _ r.0 _ r.1 r.3 r.4.0 refl)
    node_keeps x (lowers b m found may is e) = let i : ℕ = pending_place p.shape (next_target b p v m) in
        let r = steps.lowers p (length s.homes) id (v, []) (λ n. lowered b p v m n) (λ n. 0 < n) b m (next_target b p v m) may refl (λ _. refl)
        (λ n more. more) s h refl at (fit i) in
        subst Kept (sym e) (settle s id i _ _ r.0 _ r.1 r.3 (r.4.0 ∙ ap (lowered b p v m) (sym is))
        (less_by (get_or s.words i 0) 0 r.4.2 (fit i) ∙ ap (λ n. n - 1) (sym is)))
    node_keeps x (triggers b m may e) = let i : ℕ = status_place p.shape (last_target b p v m) in
        let r = steps.triggers p (length s.homes) id (v, []) (λ _. triggered b p v m) b m (last_target b p v m) may refl (λ _. refl) s h refl at (fit i) in
        subst Kept (sym e) (settle s id i _ _ r.0 _ r.1 r.3 r.4.0 refl)
    node_keeps x (claims b m may is e) = let i : ℕ = status_place p.shape m in let c : ℕ = cycle_of b v m in
        let r = steps.claims p (length s.homes) id (v, []) (λ n. claimed b p v m n) b m may (λ _. refl) s h refl at (fit i) in
        let yes = eq-eqb (get_or s.words i 0) (triggered_word c) is in
        subst Kept (sym e) (settle s id i _ _ r.0 _ r.1 r.3
        (r.4.0 ∙ ap (λ k. cond k (woken b v m) (tried p v m (get_or s.words i 0))) yes) (ap (λ k. either k (awake_word c) (get_or s.words i 0)) yes))
    node_keeps x (finishes b m may e) = let i : ℕ = status_place p.shape m in
        let r = steps.finishes p (length s.homes) id (v, []) (λ _. finished b v m) b m may (λ _. refl) s h refl at (fit i) in
        subst Kept (sym e) (settle s id i _ _ r.0 _ r.1 r.3 r.4.0 refl)
    node_keeps x (draws_ticket b m ticket may is e) =
        let r = steps.draws_ticket p (length s.homes) id (v, []) (λ n. draws b v m n) b m (λ n. n < event_count p.shape) may (λ _. refl) (λ n low. low)
        s h refl at (fit ticket_place) in let events = h.seated.sound.events in let low = r.4.2 in
        subst Kept (sym e) (settle s id ticket_place _ _ r.0 _ r.1 r.3 (r.4.0 ∙ ap (draws b v m) (sym is))
        (more_by (get_or s.words ticket_place 0) (omega arith) ∙ ap (λ n. n + 1) (sym is)))
    node_keeps x (stores_event b m may e) =
        let r = steps.stores_event p (length s.homes) id (v, []) (λ _. event_stored b v m) b m may (λ _. refl) s h refl at (fit _) in
        subst Kept (sym e) (settle s id _ _ _ r.0 _ r.1 r.3 r.4.0 refl)
    node_keeps x (looks m found may is e) = let i : ℕ = status_place p.shape m in
        let r = steps.looks_at p (length s.homes) id (v, []) (λ n. looked p v m n) m may (λ _. refl) s h refl at (fit i) in
        subst Kept (sym e) (settle s id i _ _ r.0 _ r.1 r.3 (r.4.0 ∙ ap (looked p v m) (sym is)) (sym is))
    node_keeps x (stores_late late may e) = let i : ℕ = late_place p.shape (v.lead.cycle - first p) in let low = may.0.1.0 in
        let r = steps.stores_late p (length s.homes) id (v, []) (λ _. late_stored v) late (v.lead.cycle - first p) may (omega arith) (λ _. refl)
        s h refl at (fit i) in
        subst Kept (sym e) (settle s id i _ _ r.0 _ r.1 r.3 r.4.0 refl)

    buffer_keeps : (x : Move) → BufferAdvances p s.words v x → Kept x
    buffer_keeps x (loads_as_writer l found may is e) = let i : ℕ = io_place p.shape l (write_area p v l) in
        let r = load_writer_allowed p (length s.homes) id (v, []) (λ _. loaded_as_writer p v l) (λ _. Unit {0}) l may (λ _. refl) (λ _ _ _. tt) s h refl at (fit i) in
        subst Kept (sym e) (settle s id i _ _ r.0 _ r.1 r.3 r.4.0 (sym is))
    buffer_keeps x (loads_readers q n may is e) = let i : ℕ = readers_place p.shape q n in
        let r = load_readers_allowed p (length s.homes) id (v, []) (λ k. readers_loaded p v q n k) (λ _. Unit {0}) q n may (λ _. refl) (λ _ _ _. tt) s h refl at (fit i) in
        subst Kept (sym e) (settle s id i _ _ r.0 _ r.1 r.3 (r.4.0 ∙ ap (readers_loaded p v q n) is) is)
    buffer_keeps x (stores_sample q n i word may e) =
        let r = store_sample_allowed p (length s.homes) id (v, []) (λ _. sample_stored p v q n i) (λ _. Unit {0}) q n i word may (λ _. refl) s h refl at (fit _) in
        subst Kept (sym e) (settle s id _ _ _ r.0 _ r.1 r.3 r.4.0 refl)
    buffer_keeps x (stores_readers q n may e) =
        let r = store_readers_allowed p (length s.homes) id (v, []) (λ _. readers_stored p v q n) (λ _. Unit {0}) q n may (λ _. refl) s h refl at (fit _) in
        subst Kept (sym e) (settle s id _ _ _ r.0 _ r.1 r.3 r.4.0 refl)
    buffer_keeps x (stores_have l num may e) =
        let r = store_have_allowed p (length s.homes) id (v, []) (λ _. have_stored p v l num) (λ _. Unit {0}) l num may (λ _. refl) s h refl at (fit _) in
        subst Kept (sym e) (settle s id _ _ _ r.0 _ r.1 r.3 r.4.0 refl)
    buffer_keeps x (loads_as_reader b l found may is e) = let i : ℕ = io_place p.shape l (read_area b p v l) in
        let r = load_reader_allowed p (length s.homes) id (v, []) (λ n. loaded_as_reader b p v l n) (λ _. Unit {0}) b l may (λ _. refl) (λ _ _. tt) s h refl at (fit i) in
        subst Kept (sym e) (settle s id i _ _ r.0 _ r.1 r.3 (r.4.0 ∙ ap (loaded_as_reader b p v l) (sym is)) (sym is))
    buffer_keeps x (loads_sample b l num found may short is e) = let i : ℕ = sample_place p.shape (pool_of p l) num (words_read_of v l) in
        let r = load_sample_allowed p (length s.homes) id (v, []) (λ _. sample_loaded b p v l (words_read_of v l)) (λ _. Unit {0}) b l num (words_read_of v l) may short
        (λ _. refl) (λ _ _ _. tt) s h refl at (fit i) in
        subst Kept (sym e) (settle s id i _ _ r.0 _ r.1 r.3 r.4.0 (sym is))
    buffer_keeps x (lowers_readers b l num found may is e) = let i : ℕ = readers_place p.shape (pool_of p l) num in
        let r = lower_readers_allowed p (length s.homes) id (v, []) (λ _. readers_lowered b p v l) (λ n. 0 < n) b l num may (λ _. refl) (λ n more. more) s h refl at (fit i) in
        subst Kept (sym e) (settle s id i _ _ r.0 _ r.1 r.3 r.4.0 (less_by (get_or s.words i 0) 0 r.4.2 (fit i) ∙ ap (λ n. n - 1) (sym is)))
    buffer_keeps x (stores_need b l num may e) =
        let r = store_need_allowed p (length s.homes) id (v, []) (λ _. need_stored b p v l) (λ _. Unit {0}) b l num may (λ _. refl) s h refl at (fit _) in
        subst Kept (sym e) (settle s id _ _ _ r.0 _ r.1 r.3 r.4.0 refl)

    pub advance_keeps : (x : Move) → Advances p s.words v x → Holds p (moved s id x)
    advance_keeps x a = ⊎_elim (node_keeps x) (buffer_keeps x) a

    pub vain_keeps : (x : Move) (back : ℕ) → VainSteps p s.words v x back → Holds p (moved s id x)
    vain_keeps x back (claims_early b m found may is late none e) = let i : ℕ = status_place p.shape m in let c : ℕ = cycle_of b v m in
        let r = steps.claims p (length s.homes) id (v, []) (λ n. claimed b p v m n) b m may (λ _. refl) s h refl at (fit i) in
        let no = ne_eqb (get_or s.words i 0) (triggered_word c) (λ z. late (is ∙ z)) in
        subst Kept (sym e) (settle s id i _ _ r.0 _ r.1 r.3
        (r.4.0 ∙ ap (λ k. cond k (woken b v m) (tried p v m (get_or s.words i 0))) no ∙ ap (tried p v m) (sym is))
        (ap (λ k. either k (awake_word c) (get_or s.words i 0)) no ∙ sym is))
    vain_keeps x back (loads_again b l num i found may again is more e) = let place : ℕ = sample_place p.shape (pool_of p l) num i in
        let low = (now_running p s h id b v (reader_of p l) at may.0.0.0.2 may.0.0.0.3).3 in
        let few = ((h.seated.knows id v at).reads low).few l may.0.0.0.0 in
        let r = load_sample_allowed p (length s.homes) id (v, []) (λ _. sample_loaded b p v l i) (λ _. Unit {0}) b l num i may (omega arith)
        (λ _. refl) (λ _ _ _. tt) s h refl at (fit place) in
        subst Kept (sym e) (settle s id place _ _ r.0 _ r.1 r.3 r.4.0 (sym is))
