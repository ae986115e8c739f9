-- The reset of a cycle, under loops that keep trying: the driver's seat stores the pending word and the status word of each node.
use Rattle.std.proofs.Common.{◌≡◌, ◌≢◌, ℕ, suc, ◌+◌, ◌*◌, ◌<◌, Bool, true, false, true≢false, cond, eqb, List, [], length, set}
use Rattle.std.proofs.Common.{get_or, refl, sym, ap, ◌∙◌, subst, arith, eq-eqb, ne_eqb, get_or-set_other, get_or-set_same}
use mathlib.Core.Logic.{dite}
use native.Mathlib.Decide.{ℕ_discrete}
use Rattle.atomic_table.specs.Table.{Me, keeps, stepped, Allows}
use Rattle.board_rule.specs.declared.view.DriverPhase.{DriverPhase}
use Rattle.board_rule.specs.declared.view.DriverPhase.TheVariants as drives
use Rattle.board_rule.specs.declared.view.DriverView.{DriverView}
use Rattle.board_rule.specs.declared.view.Trail.{Trail}
use Rattle.board_rule.specs.declared.view.View.{View}
use Rattle.pw_graph.specs.Layout.{pending_place, status_place}
use Rattle.pw_graph.specs.Words.{not_triggered_word}
use Rattle.board_rule.specs.Layout.{BoardLayout, IsSound, nodes}
use Rattle.board_rule.specs.Sums.{total, times}
use Rattle.board_rule.specs.activation.Phases.{phase_rest, phase_owing, phase_stage, drive_drawn, is_resetting, is_between}
use Rattle.board_rule.specs.View.{Whole, with_lead, view_lead}
use Rattle.board_rule.specs.activation.ActivationRule.{Activations, DriverPhaseOk, Words, Resets, IsIdle, progress}
use Rattle.board_rule.specs.events.EventRule.{lead_drawn}
use Rattle.board_rule.specs.BoardRule.{Holds}
use Rattle.board_rule.specs.Steps.{reset_to}
use Rattle.board_rule.specs.working.Plays.{Leaves}
use Rattle.board_rule.proofs.buffers.SpanLemmas.{drive_paced, reset_paced}
use Rattle.board_rule.proofs.SumLemmas.{total_same, total_zero}
use Rattle.board_rule.proofs.RunLemmas.{Sums, sum_left, sum_debts}
use Rattle.board_rule.proofs.activation.LeftLemmas.{from_sums}
use Rattle.board_rule.proofs.events.MarkLemmas.{QuietDrives, quiet_drive}
use Rattle.board_rule.proofs.activation.FollowerLemmas.{rest_at, owing_at, stage_at}
use Rattle.board_rule.proofs.DriverLemmas.{lead_to, lead_is, holds_lead, rest_driver, owing_driver, stage_driver}

reset_quiet : (i k : ℕ) (b : Bool) → QuietDrives (drives.Half i) (cond b (drives.Kick 0 false) (drives.Reset k))
reset_quiet i k true = record {
  started = refl;
  finished = refl;
  holds = λ _. refl;
  tells = λ _ _. refl;
  sees = λ _. refl;
  begun = refl;
  ending = refl;
  checking = refl;
  looking = refl;
}
reset_quiet i k false = record {
  started = refl;
  finished = refl;
  holds = λ _. refl;
  tells = λ _ _. refl;
  sees = λ _. refl;
  begun = refl;
  ending = refl;
  checking = refl;
  looking = refl;
}

module _ (p : BoardLayout) where
  -- one more pending word is reset
  resets_pending : (c i : ℕ) (ws : List ℕ) → i < nodes p → nodes p + nodes p < length ws → Resets p c i i ws
      → Resets p c (suc i) i (set ws (pending_place p.shape i) (p.required i))
  resets_pending c i ws h wide r = let x : ℕ = p.required i in let at : ℕ = pending_place p.shape i in record {
    pending_new = λ n hn l. dite (ℕ_discrete n i) (λ e. ap (λ k. get_or (set ws at x) (pending_place p.shape k) 0) e
        ∙ get_or-set_same ws at x 0 (omega arith) ∙ ap p.required (sym e))
        (λ e. get_or-set_other ws at (pending_place p.shape n) x 0 (λ z. e (omega arith)) ∙ r.pending_new n hn (omega arith));
    pending_old = λ n hn l. get_or-set_other ws at (pending_place p.shape n) x 0 (λ z. omega arith) ∙ r.pending_old n hn (omega arith);
    status_new = λ n hn l. get_or-set_other ws at (status_place p.shape n) x 0 (λ z. omega arith) ∙ r.status_new n hn l;
    status_old = λ n hn l. get_or-set_other ws at (status_place p.shape n) x 0 (λ z. omega arith) ∙ r.status_old n hn l;
  }

  -- and its status word
  resets_status : (c i : ℕ) (ws : List ℕ) → i < nodes p → nodes p + nodes p < length ws → Resets p c (suc i) i ws
      → Resets p c (suc i) (suc i) (set ws (status_place p.shape i) (not_triggered_word c))
  resets_status c i ws h wide r = let x : ℕ = not_triggered_word c in let at : ℕ = status_place p.shape i in record {
    pending_new = λ n hn l. get_or-set_other ws at (pending_place p.shape n) x 0 (λ z. omega arith) ∙ r.pending_new n hn l;
    pending_old = λ n hn l. get_or-set_other ws at (pending_place p.shape n) x 0 (λ z. omega arith) ∙ r.pending_old n hn l;
    status_new = λ n hn l. dite (ℕ_discrete n i) (λ e. ap (λ k. get_or (set ws at x) (status_place p.shape k) 0) e
        ∙ get_or-set_same ws at x 0 (omega arith))
        (λ e. get_or-set_other ws at (status_place p.shape n) x 0 (λ z. e (omega arith)) ∙ r.status_new n hn (omega arith));
    status_old = λ n hn l. get_or-set_other ws at (status_place p.shape n) x 0 (λ z. omega arith) ∙ r.status_old n hn (omega arith);
  }

  -- when all nodes are reset, each waits for all that it depends on
  begins : (g : Whole) (ws : List ℕ) → IsSound p → ((n : ℕ) → n < nodes p → n ≢ p.driver → IsIdle p g.lead.cycle (g.nodes n))
      → Resets p g.lead.cycle (nodes p) (nodes p) ws
      → Sums p.shape g.lead.cycle (progress p (with_lead g (lead_to g (drives.Kick 0 false) g.lead))) ws
  begins g ws sound resting r = let h : Whole = with_lead g (lead_to g (drives.Kick 0 false) g.lead) in let c : ℕ = g.lead.cycle in
      let rest : (m : ℕ) → m < nodes p → (progress p h).rest m ≡ p.targets m = λ m l. dite (ℕ_discrete m p.driver)
      (λ e. ap (progress p h).rest e ∙ rest_driver p h ∙ ap p.targets (sym e))
      (λ e. rest_at p h m e ∙ (let d = resting m l e in λ j. phase_rest (p.targets m) (eqb (d.0 j) c) (d.1 j))
      ∙ ap (λ b. cond b (p.targets m) []) (eq-eqb c c refl)) in
      let owing : (m : ℕ) → m < nodes p → (progress p h).owing m ≡ [] = λ m l. dite (ℕ_discrete m p.driver)
      (λ e. ap (progress p h).owing e ∙ owing_driver p h)
      (λ e. owing_at p h m e ∙ ap (phase_owing (p.targets m)) (resting m l e).1) in
      let stage : (m : ℕ) → m < nodes p → (progress p h).stage m ≡ 0 = λ m l. dite (ℕ_discrete m p.driver)
      (λ e. ap (progress p h).stage e ∙ stage_driver p h)
      (λ e. stage_at p h m e ∙ (let d = resting m l e in λ j. phase_stage (eqb (d.0 j) c) (d.1 j)) ∙ ap (λ b. cond b 0 2) (eq-eqb c c refl))
      in record {
        node = λ n hn. let pending = r.pending_new n hn hn in let status = r.status_new n hn hn in let required = sound.required_is n hn in
            let some = sound.required_some n hn in
            let sum : sum_left (nodes p) (progress p h) n ≡ total (λ m. times n (p.targets m)) (nodes p) =
            total_same (λ m. times n (p.targets m)) (λ m. times n ((progress p h).rest m)) (nodes p) (λ m l. ap (times n) (rest m l)) in
            let free : sum_debts (nodes p) (progress p h) n ≡ 0 =
            total_zero (λ m. times n ((progress p h).owing m)) (nodes p) (λ m l. ap (times n) (owing m l)) in record {
              kind = 0;
              status_is = status;
              kinds = omega arith;
              counts = omega arith;
              waits = λ _. (refl, free);
              owed = λ z. absurd (omega arith);
              paid = λ z. absurd (omega arith);
              asleep = λ _. stage n hn;
              awake = λ z. absurd (omega arith);
              done = λ z. absurd (omega arith);
            };
      }

  module _ {S : Type 0} where
    pub store_pending_allowed : (slots id i : ℕ) (me : Me S View) (t : Trail) (after : ℕ → View) → me.0.number ≡ p.seats
        → t.looks ≡ me.0.trail.looks → me.0.lead.drive ≡ drives.Reset i
        → ((found : ℕ) → after found ≡ view_lead me.0 (record me.0.lead { drive = drives.Half i }) t)
        → Allows (Holds p) slots id me (pending_place p.shape i) (λ _. p.required i) (λ _. Leaves after me (p.required i))
    store_pending_allowed slots id i me t after number looks phase is_after s r _ at fits =
        let g = r.whole in let a = r.activations in let wide = r.seated.wide in
        let is = lead_is p s r id me.0 at number in
        let drive : g.lead.drive ≡ drives.Reset i = ap (λ (l : DriverView). l.drive) (sym is) ∙ phase in
        let c : ℕ = g.lead.cycle in
        let h : DriverPhaseOk p (drives.Reset i) = subst (DriverPhaseOk p) drive a.drive in
        let old : Words p c (progress p g) (drives.Reset i) s.words = subst (λ d. Words p c (progress p g) d s.words) drive a.laid in
        let same : lead_drawn g.lead ≡ 5 * c + (1 + cond g.lead.checked 1 0) =
        ap (λ d. 5 * c + cond (is_between d) 0 (drive_drawn d + cond g.lead.checked 1 0)) drive in (
          view_lead me.0 (record me.0.lead { drive = drives.Half i }) t,
          keeps,
          tt,
          subst (λ (l : DriverView). Holds p (stepped s (pending_place p.shape i) (p.required i) id me.1
              (view_lead me.0 (record l { drive = drives.Half i }) t) keeps)) (sym is)
              (holds_lead p s r id (pending_place p.shape i) (p.required i) me.0 me.1 (lead_to g (drives.Half i) g.lead) t at number looks
              (omega arith) (omega arith) (omega arith) (quiet_drive g.lead (drives.Reset i) (drives.Half i) drive record {
                started = refl;
                finished = refl;
                holds = λ _. refl;
                tells = λ _ _. refl;
                sees = λ _. refl;
                begun = refl;
                ending = refl;
                checking = refl;
                looking = refl;
              }) (drive_paced g.lead (drives.Reset i) (lead_to g (drives.Half i) g.lead) drive refl refl (omega arith))
              record {
                later = a.later;
                early = a.early;
                within = λ _. a.within (ap is_between drive);
                drive = h;
                followers = a.followers;
                resting = λ _. a.resting (ap is_resetting drive);
                laid = resets_pending c i s.words h wide old;
              }),
          (sym (is_after (p.required i)), refl),
        )

    pub store_not_triggered_allowed : (slots id i : ℕ) (me : Me S View) (t : Trail) (after : ℕ → View) → me.0.number ≡ p.seats
        → t.looks ≡ me.0.trail.looks → me.0.lead.drive ≡ drives.Half i
        → ((found : ℕ) → after found ≡ view_lead me.0 (record me.0.lead { drive = reset_to (nodes p) (suc i) }) t)
        → Allows (Holds p) slots id me (status_place p.shape i) (λ _. not_triggered_word me.0.lead.cycle)
        (λ _. Leaves after me (not_triggered_word me.0.lead.cycle))
    store_not_triggered_allowed slots id i me t after number looks phase is_after s r _ at fits =
        let g = r.whole in let a = r.activations in let sound = r.seated.sound in let wide = r.seated.wide in
        let is = lead_is p s r id me.0 at number in
        let drive : g.lead.drive ≡ drives.Half i = ap (λ (l : DriverView). l.drive) (sym is) ∙ phase in
        let c : ℕ = g.lead.cycle in
        let h : DriverPhaseOk p (drives.Half i) = subst (DriverPhaseOk p) drive a.drive in
        let resting = a.resting (ap is_resetting drive) in
        let within = a.within (ap is_between drive) in
        let old : Words p c (progress p g) (drives.Half i) s.words = subst (λ d. Words p c (progress p g) d s.words) drive a.laid in
        let ws : List ℕ = set s.words (status_place p.shape i) (not_triggered_word c) in
        let new = resets_status c i s.words h wide old in
        let goal : DriverPhase → Type 0 = λ d. Activations p (with_lead g (lead_to g d g.lead)) ws
        × (lead_drawn (lead_to g d g.lead) ≡ 5 * c + (1 + cond g.lead.checked 1 0)) in
        let act : goal (reset_to (nodes p) (suc i)) = dite (ℕ_discrete (suc i) (nodes p))
        (λ (e : suc i ≡ nodes p). subst (λ b. goal (cond b (drives.Kick 0 false) (drives.Reset (suc i)))) (sym (eq-eqb (suc i) (nodes p) e)) (
          record {
            later = a.later;
            early = a.early;
            within = λ _. within;
            drive = sound.tells p.driver sound.driver_in;
            followers = a.followers;
            resting = λ z. absurd (true≢false (sym z));
            laid = from_sums p (with_lead g (lead_to g (drives.Kick 0 false) g.lead)) c ws
                (begins g ws sound resting (subst (λ k. Resets p c k k ws) e new));
          },
          refl,
        ))
        (λ (e : suc i ≢ nodes p). subst (λ b. goal (cond b (drives.Kick 0 false) (drives.Reset (suc i)))) (sym (ne_eqb (suc i) (nodes p) e)) (
          record {
            later = a.later;
            early = a.early;
            within = λ _. within;
            drive = omega arith;
            followers = a.followers;
            resting = λ _. resting;
            laid = new;
          },
          refl,
        )) in
        let drawn = act.1 in
        let same : lead_drawn g.lead ≡ 5 * c + (1 + cond g.lead.checked 1 0) =
        ap (λ d. 5 * c + cond (is_between d) 0 (drive_drawn d + cond g.lead.checked 1 0)) drive in (
          view_lead me.0 (record me.0.lead { drive = reset_to (nodes p) (suc i) }) t,
          keeps,
          tt,
          subst (λ (l : DriverView). Holds p (stepped s (status_place p.shape i) (not_triggered_word l.cycle) id me.1
              (view_lead me.0 (record l { drive = reset_to (nodes p) (suc i) }) t) keeps)) (sym is)
              (holds_lead p s r id (status_place p.shape i) (not_triggered_word c) me.0 me.1
              (lead_to g (reset_to (nodes p) (suc i)) g.lead) t at number looks (omega arith) (omega arith) (omega arith)
              (quiet_drive g.lead (drives.Half i) (reset_to (nodes p) (suc i)) drive (reset_quiet i (suc i) (eqb (suc i) (nodes p))))
              (let z = reset_paced (nodes p) (suc i) in drive_paced g.lead (drives.Half i)
              (lead_to g (reset_to (nodes p) (suc i)) g.lead) drive refl z.0 (omega arith)) act.0),
          (sym (is_after (not_triggered_word me.0.lead.cycle)), refl),
        )
