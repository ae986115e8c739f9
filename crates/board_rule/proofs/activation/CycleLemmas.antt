-- The driver's seat outside the reset: it claims and ends the driver's node, draws tickets and stores events, and ends the cycle.
use Rattle.std.proofs.Common.{◌≡◌, ◌≢◌, ℕ, ◌+◌, ◌-◌, ◌*◌, ◌<◌, true, false, true≢false, cond, eqb, List, [], ◌∷◌, take}
use Rattle.std.proofs.Common.{drop, length, set, get_or, refl, sym, ap, ◌∙◌, subst, arith, eq-eqb, ne_eqb, get_or-set_other}
use mathlib.Core.Logic.{dite}
use native.Mathlib.Decide.{ℕ_discrete, dec_le}
use prog.Atomic.{either}
use Rattle.std.proofs.lemmas.List.{drop_more, drop_all}
use Rattle.atomic_table.specs.Table.{Me, keeps, stepped, Allows}
use Rattle.board_rule.specs.declared.view.Phase.{Phase}
use Rattle.board_rule.specs.declared.view.Phase.TheVariants.{Idle, Awake, StartDrawn, Running, Done, FinishDrawn, Telling}
use Rattle.board_rule.specs.declared.view.DriverPhase.{DriverPhase}
use Rattle.board_rule.specs.declared.view.DriverPhase.TheVariants as drives
use Rattle.board_rule.specs.declared.view.DriverView.{DriverView}
use Rattle.board_rule.specs.declared.view.Trail.{Trail}
use Rattle.board_rule.specs.declared.view.View.{View}
use Rattle.pw_graph.specs.Layout.{pending_place, status_place}
use Rattle.pw_graph.specs.Words.{status_word_of, awake_word, finished_word, not_triggered_word, triggered_word}
use Rattle.board_rule.specs.Layout.{BoardLayout, IsSound, nodes, first, last}
use Rattle.board_rule.specs.Sums.{times}
use Rattle.board_rule.specs.activation.Phases.{owed_of, phase_rest, phase_owing, phase_stage, PhaseOk, drive_rest, drive_owing, drive_stage}
use Rattle.board_rule.specs.activation.Phases.{drive_drawn, is_resetting, is_between}
use Rattle.board_rule.specs.View.{Whole, with_lead, view_lead, view_trail}
use Rattle.board_rule.specs.activation.ActivationRule.{Activations, DriverPhaseOk, Words, Resets, IsIdle, progress, old_status}
use Rattle.board_rule.specs.events.EventRule.{lead_drawn}
use Rattle.board_rule.specs.buffers.Spans.{spans, drive_over, drive_begun}
use Rattle.board_rule.specs.activation.WorkSteps.{IsGivenOn}
use Rattle.board_rule.specs.BoardRule.{Holds}
use Rattle.board_rule.specs.working.Plays.{Leaves}
use Rattle.board_rule.proofs.buffers.SpanLemmas.{drive_paced, lead_begun, wired_in, over_at, over_lead, begun_lead, begun_lead_put, early_word}
use Rattle.board_rule.proofs.buffers.HolderLemmas.{is_ready, holder_leads}
use Rattle.board_rule.proofs.buffers.PacedLemmas.{paces}
use Rattle.board_rule.proofs.events.FinishLemmas.{buffers_finish}
use Rattle.board_rule.proofs.SumLemmas.{total_zero, total_at}
use Rattle.board_rule.proofs.RunLemmas.{Sums, keeps as stays, wakes, finishes}
use Rattle.board_rule.proofs.events.MarkLemmas.{quiet_drive}
use Rattle.board_rule.proofs.activation.FollowerLemmas.{rest_at, owing_at, stage_at, words_run}
use Rattle.board_rule.proofs.activation.WorkStepsLemmas.{IsOther}
use Rattle.board_rule.proofs.activation.ClaimLemmas.{remembers}
use Rattle.board_rule.proofs.DriverLemmas.{lead_to, lead_is, holds_lead, holds_lead_by, active_lead, runs_within, rest_driver, owing_driver}
use Rattle.board_rule.proofs.DriverLemmas.{stage_driver, beside}

-- two phases of the driver's seat outside the reset that mean the same for the activation words
pub record AlikeDrives (d e : DriverPhase) : Type 0 where
  pub rest : (ts : List ℕ) → drive_rest ts e ≡ drive_rest ts d
  pub owing : (ts : List ℕ) → drive_owing ts e ≡ drive_owing ts d
  pub stage : drive_stage e ≡ drive_stage d
  pub runs : is_resetting d ≡ false
  pub goes_on : is_resetting e ≡ false
  pub ok : (p : BoardLayout) → DriverPhaseOk p e

module _ (p : BoardLayout) where
  -- where nobody has yet to tell the driver, or owes it, each follower is done
  done_by : (ts : List ℕ) (c next d : ℕ) (f : Phase) → PhaseOk (length ts) c next f → ((i : ℕ) → i < length ts → 0 < times d (drop i ts))
      → 0 < length ts
      → times d (phase_rest ts (eqb next c) f) ≡ 0 → times d (phase_owing ts f) ≡ 0 → (next ≡ c + 1) × (f ≡ Idle)
  done_by ts c next d Idle ok tells long none free = dite (ℕ_discrete next c)
      (λ (e : next ≡ c). absurd (let a = tells 0 long in let b : times d ts ≡ 0 = sym (ap (λ b. times d (cond b ts [])) (eq-eqb next c e))
      ∙ none in omega arith))
      (λ (e : next ≢ c). ((let a = ok.0 in let b = ok.1 in omega arith), refl))
  done_by ts c next d Awake ok tells long none free =
      absurd (let a = tells 0 long in let b : times d ts ≡ 0 = sym (ap (λ b. times d (cond b ts [])) (eq-eqb next c ok)) ∙ none in
      omega arith)
  done_by ts c next d StartDrawn ok tells long none free =
      absurd (let a = tells 0 long in let b : times d ts ≡ 0 = sym (ap (λ b. times d (cond b ts [])) (eq-eqb next c ok)) ∙ none in
      omega arith)
  done_by ts c next d Running ok tells long none free =
      absurd (let a = tells 0 long in let b : times d ts ≡ 0 = sym (ap (λ b. times d (cond b ts [])) (eq-eqb next c ok)) ∙ none in
      omega arith)
  done_by ts c next d Done ok tells long none free =
      absurd (let a = tells 0 long in let b : times d ts ≡ 0 = sym (ap (λ b. times d (cond b ts [])) (eq-eqb next c ok)) ∙ none in
      omega arith)
  done_by ts c next d FinishDrawn ok tells long none free =
      absurd (let a = tells 0 long in let b : times d ts ≡ 0 = sym (ap (λ b. times d (cond b ts [])) (eq-eqb next c ok)) ∙ none in
      omega arith)
  done_by ts c next d (Telling i false) ok tells long none free = absurd (let a = tells i ok.1 in omega arith)
  done_by ts c next d (Telling i true) ok tells long none free = let low = ok.1.0 in let high = ok.1.1 in dite (ℕ_discrete i (length ts))
      (λ (e : i ≡ length ts). absurd (let a = tells (i - 1) (omega arith) in
      let one : i - 1 + 1 ≡ i = omega arith in
      let all : drop (i - 1) ts ≡ get_or ts (i - 1) 0 ∷ [] = drop_more ts (i - 1) 0 (omega arith)
      ∙ ap (λ l. get_or ts (i - 1) 0 ∷ l) (ap (λ k. drop k ts) one ∙ drop_all i ts (omega arith)) in
      let same : times d (owed_of ts i true) ≡ times d (drop (i - 1) ts) = ap (λ l. times d (take 1 l)) all ∙ sym (ap (times d) all) in
      omega arith))
      (λ (e : i ≢ length ts). absurd (let a = tells i (omega arith) in omega arith))

  -- once the driver is triggered every follower is done: seen here of a driver that is awake or past it
  pub all_done : (g : Whole) (ws : List ℕ) → IsSound p → Activations p g ws → is_resetting g.lead.drive ≡ false
      → 0 < drive_stage g.lead.drive → (m : ℕ) → m < nodes p → m ≢ p.driver → IsIdle p (g.lead.cycle + 1) (g.nodes m)
  all_done g ws sound a on woken m inside follows =
      let runs = words_run p g g.lead.drive ws (λ e. true≢false (sym e ∙ on)) a.laid in
      let o = runs.node p.driver sound.driver_in in
      let stage : (progress p g).stage p.driver ≡ drive_stage g.lead.drive = stage_driver p g in
      let k = o.kinds in
      let high : 0 < o.kind = dite (dec_le o.kind 0) (λ z. absurd (let w = o.asleep (omega arith) in omega arith)) (λ z. omega arith) in
      let empty : get_or ws (pending_place p.shape p.driver) 0 ≡ 0 =
      dite (ℕ_discrete (get_or ws (pending_place p.shape p.driver) 0) 0) (λ z. z)
      (λ z. absurd (let w = o.waits (omega arith) in let w₀ = w.0 in omega arith)) in
      let free = o.paid high in
      let counts = o.counts in
      let r = total_at (λ i. times p.driver ((progress p g).rest i)) m (nodes p) inside in
      let d = total_at (λ i. times p.driver ((progress p g).owing i)) m (nodes p) inside in
      done_by (p.targets m) g.lead.cycle (g.nodes m).next p.driver (g.nodes m).phase (a.followers m inside follows)
      (λ i h. sound.tells_driver m i inside h) (sound.tells m inside)
      (sym (ap (times p.driver) (rest_at p g m follows)) ∙ (let z : times p.driver ((progress p g).rest m) ≡ 0 = omega arith in z))
      (sym (ap (times p.driver) (owing_at p g m follows)) ∙ (let z : times p.driver ((progress p g).owing m) ≡ 0 = omega arith in z))

  -- the words at the end of a cycle are those before the next reset
  ends : (g : Whole) (ws : List ℕ) (i x : ℕ) → IsSound p → Activations p g ws → g.lead.drive ≡ drives.EndDrawn → IsOther p i
      → Resets p (g.lead.cycle + 1) 0 0 (set ws i x)
  ends g ws i x sound a drive other =
      let c : ℕ = g.lead.cycle in
      let on : is_resetting g.lead.drive ≡ false = ap is_resetting drive in
      let done = all_done g ws sound a on (let z : drive_stage g.lead.drive ≡ 2 = ap drive_stage drive in omega arith) in
      let runs = words_run p g g.lead.drive ws (λ e. true≢false (sym e ∙ on)) a.laid in
      let none : (m : ℕ) → m < nodes p → (progress p g).rest m ≡ [] = λ m h. dite (ℕ_discrete m p.driver)
      (λ e. ap (progress p g).rest e ∙ rest_driver p g ∙ ap (drive_rest (p.targets p.driver)) drive)
      (λ e. rest_at p g m e ∙ (let d = done m h e in λ j. phase_rest (p.targets m) (eqb (d.0 j) c) (d.1 j))
      ∙ ap (λ b. cond b (p.targets m) []) (ne_eqb (c + 1) c (λ z. omega arith))) in
      let stage : (m : ℕ) → m < nodes p → (progress p g).stage m ≡ 2 = λ m h. dite (ℕ_discrete m p.driver)
      (λ e. ap (progress p g).stage e ∙ stage_driver p g ∙ ap drive_stage drive)
      (λ e. stage_at p g m e ∙ (let d = done m h e in λ j. phase_stage (eqb (d.0 j) c) (d.1 j))
      ∙ ap (λ b. cond b 0 2) (ne_eqb (c + 1) c (λ z. omega arith))) in
      let one : c + 1 - 1 ≡ c = omega arith in
      let old : old_status p (c + 1) ≡ finished_word c = let l = a.later in
      ap (λ b. cond b (not_triggered_word (c + 1)) (finished_word (c + 1 - 1))) (ne_eqb (c + 1) (first p) (λ z. omega arith))
      ∙ ap (finished_word) one in record {
        pending_new = λ n h l. absurd (omega arith);
        pending_old = λ n h _. get_or-set_other ws i (pending_place p.shape n) x 0 (other n h).0 ∙ (runs.node n h).counts
            ∙ total_zero (λ m. times n ((progress p g).rest m)) (nodes p) (λ m l. ap (times n) (none m l));
        status_new = λ n h l. absurd (omega arith);
        status_old = λ n h _. let o = runs.node n h in let k = o.kinds in let at = stage n h in let is = o.status_is in
            let kind : o.kind ≡ 3 = dite (ℕ_discrete o.kind 3) (λ z. z)
            (λ z. absurd (dite (ℕ_discrete o.kind 2) (λ y. let f = o.awake y in omega arith)
            (λ y. let f = o.asleep (omega arith) in omega arith))) in
            get_or-set_other ws i (status_place p.shape n) x 0 (other n h).1 ∙ is ∙ ap (λ k. status_word_of k c) kind ∙ sym old;
      }

  -- before the reset other words may change
  resets_stay : (c i x : ℕ) (ws : List ℕ) → IsOther p i → Resets p c 0 0 ws → Resets p c 0 0 (set ws i x)
  resets_stay c i x ws other r = record {
    pending_new = λ n h l. absurd (omega arith);
    pending_old = λ n h l. get_or-set_other ws i (pending_place p.shape n) x 0 (other n h).0 ∙ r.pending_old n h l;
    status_new = λ n h l. absurd (omega arith);
    status_old = λ n h l. get_or-set_other ws i (status_place p.shape n) x 0 (other n h).1 ∙ r.status_old n h l;
  }

  -- the activation rule after a step on another word: to a phase that means the same, to the drawn Begin, and to the reset
  pub active_alike : (g : Whole) (ws : List ℕ) (d e : DriverPhase) (y : DriverView) (i x : ℕ) → g.lead.drive ≡ d → AlikeDrives d e → IsOther p i
      → Activations p g ws → Activations p (with_lead g (lead_to g e y)) (set ws i x)
  active_alike g ws d e y i x drive like other a =
      let c : ℕ = g.lead.cycle in
      let runs_on : is_resetting g.lead.drive ≡ true → ⊥ = λ t. true≢false (sym t ∙ ap is_resetting drive ∙ like.runs) in
      let runs = words_run p g g.lead.drive ws runs_on a.laid in
      let h : Whole = with_lead g (lead_to g e y) in
      let away = beside p g e y in
      let ts : List ℕ = p.targets p.driver in
      let rest : (progress p h).rest p.driver ≡ (progress p g).rest p.driver = rest_driver p h ∙ like.rest ts
      ∙ sym (rest_driver p g ∙ ap (drive_rest ts) drive) in
      let owing : (progress p h).owing p.driver ≡ (progress p g).owing p.driver = owing_driver p h ∙ like.owing ts
      ∙ sym (owing_driver p g ∙ ap (drive_owing ts) drive) in
      let stage : (progress p h).stage p.driver ≡ (progress p g).stage p.driver = stage_driver p h ∙ like.stage
      ∙ sym (stage_driver p g ∙ ap drive_stage drive) in
      let after : Sums p.shape c (progress p h) (set ws i x) = stays p.shape c (progress p g) (progress p h) ws (set ws i x)
      (λ k l. dite (ℕ_discrete k p.driver) (λ q. ap (progress p h).rest q ∙ rest ∙ ap (progress p g).rest (sym q)) (λ q. away.rest k q))
      (λ k l. dite (ℕ_discrete k p.driver) (λ q. ap (progress p h).owing q ∙ owing ∙ ap (progress p g).owing (sym q)) (λ q. away.owing k q))
      (λ k l. dite (ℕ_discrete k p.driver) (λ q. ap (progress p h).stage q ∙ stage ∙ ap (progress p g).stage (sym q)) (λ q. away.stage k q))
      (λ n l. get_or-set_other ws i (pending_place p.shape n) x 0 (other n l).0)
      (λ n l. get_or-set_other ws i (status_place p.shape n) x 0 (other n l).1) runs in
      active_lead p g ws (set ws i x) e y (like.ok p) (λ t. true≢false (sym t ∙ like.goes_on))
      (a.within (runs_within g.lead.drive runs_on)) after a

  pub active_begin : (g : Whole) (ws : List ℕ) (y : DriverView) (i x : ℕ) → g.lead.drive ≡ drives.Between → g.lead.cycle < last p
      → IsOther p i → Activations p g ws → Activations p (with_lead g (lead_to g drives.BeginDrawn y)) (set ws i x)
  active_begin g ws y i x drive within other a = record {
    later = a.later;
    early = a.early;
    within = λ _. within;
    drive = tt;
    followers = a.followers;
    resting = λ _. a.resting (ap is_resetting drive);
    laid = resets_stay g.lead.cycle i x ws other (let w : Words p g.lead.cycle (progress p g) drives.Between ws =
        subst (λ d. Words p g.lead.cycle (progress p g) d ws) drive a.laid in w);
  }

  pub active_reset : (g : Whole) (ws : List ℕ) (y : DriverView) (i x : ℕ) → 0 < nodes p → g.lead.drive ≡ drives.BeginDrawn → IsOther p i
      → Activations p g ws → Activations p (with_lead g (lead_to g (drives.Reset 0) y)) (set ws i x)
  active_reset g ws y i x many drive other a = record {
    later = a.later;
    early = a.early;
    within = λ _. a.within (ap is_between drive);
    drive = many;
    followers = a.followers;
    resting = λ _. a.resting (ap is_resetting drive);
    laid = resets_stay g.lead.cycle i x ws other (let w : Words p g.lead.cycle (progress p g) drives.BeginDrawn ws =
        subst (λ d. Words p g.lead.cycle (progress p g) d ws) drive a.laid in w);
  }

  -- the cycle ends
  pub active_end : (g : Whole) (ws : List ℕ) (y : DriverView) (i x : ℕ) → IsSound p → g.lead.drive ≡ drives.EndDrawn → IsOther p i
      → Activations p g ws → Activations p (with_lead g (record y { cycle = g.lead.cycle + 1; drive = drives.Between })) (set ws i x)
  active_end g ws y i x sound drive other a =
      let within = a.within (ap is_between drive) in
      let done = all_done g ws sound a (ap is_resetting drive)
      (let z : drive_stage g.lead.drive ≡ 2 = ap drive_stage drive in omega arith) in record {
        later = let z = a.later in omega arith;
        early = omega arith;
        within = λ t. absurd (true≢false t);
        drive = tt;
        followers = λ n h o. let d = done n h o in subst (λ (k : ℕ × Phase). PhaseOk (length (p.targets n)) (g.lead.cycle + 1) k.0 k.1)
            (λ j. (sym d.0 j, sym d.1 j)) (omega arith, omega arith);
        resting = λ _. done;
        laid = ends g ws i x sound a drive other;
      }

  module _ {S : Type 0} where
    -- the driver's node ends its work
    pub finish_lead_allowed : (slots id : ℕ) (me : Me S View) (t : Trail) (after : ℕ → View) → me.0.number ≡ p.seats
        → t.looks ≡ me.0.trail.looks → me.0.lead.drive ≡ drives.Running → IsGivenOn p me.0 p.driver me.0.lead.cycle
        → ((found : ℕ) → after found ≡ view_lead me.0 (record me.0.lead { drive = drives.Done }) t)
        → Allows (Holds p) slots id me (status_place p.shape p.driver) (λ _. finished_word me.0.lead.cycle)
        (λ _. Leaves after me (finished_word me.0.lead.cycle))
    finish_lead_allowed slots id me t after number looks phase given is_after s r _ at fits =
        let g = r.whole in let a = r.activations in let sound = r.seated.sound in let wide = r.seated.wide in let hm = sound.driver_in in
        let is = lead_is p s r id me.0 at number in
        let drive : g.lead.drive ≡ drives.Running = ap (λ (l : DriverView). l.drive) (sym is) ∙ phase in
        let c : ℕ = g.lead.cycle in
        let ts : List ℕ = p.targets p.driver in
        let runs_on : is_resetting g.lead.drive ≡ true → ⊥ = λ z. true≢false (sym z ∙ ap is_resetting drive) in
        let runs = words_run p g g.lead.drive s.words runs_on a.laid in
        let whole : Whole = with_lead g (lead_to g drives.Done g.lead) in
        let ws : List ℕ = set s.words (status_place p.shape p.driver) (finished_word c) in
        let rest : (progress p g).rest p.driver ≡ [] = rest_driver p g ∙ ap (drive_rest ts) drive in
        let owing : (progress p g).owing p.driver ≡ [] = owing_driver p g ∙ ap (drive_owing ts) drive in
        let stage : (progress p g).stage p.driver ≡ 1 = stage_driver p g ∙ ap drive_stage drive in
        let done = finishes p.shape c p.driver (progress p g) (progress p whole) s.words hm wide (beside p g drives.Done g.lead)
        (rest_driver p whole ∙ sym rest) (owing_driver p whole ∙ sym owing) stage (stage_driver p whole) runs in
        let w = wired_in p g s.words s.views r.seated in
        let now_begun : lead_begun g.lead ≡ c + 1 = ap (λ d. c + drive_begun d) drive in
        let begun : (spans p g p.driver).begun ≡ c + 1 = begun_lead p g p.driver refl ∙ now_begun in
        let ended : (spans p g p.driver).ended ≡ c + 0 = over_lead p g p.driver refl ∙ ap (λ d. c + drive_over d) drive in
        let later : (spans p whole p.driver).ended ≡ c + 1 = over_lead p whole p.driver refl in
        let ready = is_ready p g s.words s.views id me.0 p.driver c r.seated at (holder_leads p p.driver refl ∙ sym number) begun
        (subst (λ (l : DriverView). IsGivenOn p me.0 p.driver l.cycle) is given) in
        let same : lead_drawn g.lead ≡ 5 * c + (2 + cond g.lead.checked 1 0) =
        ap (λ d. 5 * c + cond (is_between d) 0 (drive_drawn d + cond g.lead.checked 1 0)) drive in (
          view_lead me.0 (record me.0.lead { drive = drives.Done }) t,
          keeps,
          tt,
          subst (λ (l : DriverView). Holds p (stepped s (status_place p.shape p.driver) (finished_word l.cycle) id me.1
              (view_lead me.0 (record l { drive = drives.Done }) t) keeps)) (sym is)
              (holds_lead_by p s r id (status_place p.shape p.driver) (finished_word c) me.0 me.1
              (lead_to g drives.Done g.lead) t at number looks (omega arith) (omega arith) (omega arith)
              (quiet_drive g.lead drives.Running drives.Done drive record {
                started = refl;
                finished = refl;
                holds = λ _. refl;
                tells = λ _ _. refl;
                sees = λ _. refl;
                begun = refl;
                ending = refl;
                checking = refl;
                looking = refl;
              })
              (active_lead p g s.words ws drives.Done g.lead tt (λ z. true≢false (sym z))
              (a.within (runs_within g.lead.drive runs_on)) done a)
              (buffers_finish p (spans p g) (spans p whole) g.ends g.expect s.words ws p.driver w hm (paces p g s.words w a) ready
              (omega arith) (omega arith) (λ n l o. over_at p whole n o ∙ sym (over_at p g n o))
              (λ n l. begun_lead_put p g n (lead_to g drives.Done g.lead) (omega arith))
              (early_word p s.words (status_place p.shape p.driver) (finished_word c) (omega arith)) r.buffers)),
          (sym (is_after (finished_word me.0.lead.cycle)), refl),
        )

    pub claim_lead_allowed : (slots id : ℕ) (me : Me S View) (after : ℕ → View) (t : Trail) (seen : ℕ → Trail) → me.0.number ≡ p.seats
        → t.looks ≡ me.0.trail.looks → ((found : ℕ) → (seen found).looks ≡ me.0.trail.looks) → me.0.lead.drive ≡ drives.Waiting
        → (after (triggered_word me.0.lead.cycle) ≡ view_lead me.0 (record me.0.lead { drive = drives.Awake }) t)
        → ((found : ℕ) → found ≢ triggered_word me.0.lead.cycle → after found ≡ view_trail me.0 (seen found))
        → Allows (Holds p) slots id me (status_place p.shape p.driver)
        (λ w. either (eqb w (triggered_word me.0.lead.cycle)) (awake_word me.0.lead.cycle) w) (Leaves after me)
    claim_lead_allowed slots id me after t seen number looks looks_on phase hit miss s r _ at fits =
        let g = r.whole in let a = r.activations in let sound = r.seated.sound in let wide = r.seated.wide in let hm = sound.driver_in in
        let is = lead_is p s r id me.0 at number in
        let drive : g.lead.drive ≡ drives.Waiting = ap (λ (l : DriverView). l.drive) (sym is) ∙ phase in
        let cycle : me.0.lead.cycle ≡ g.lead.cycle = ap (λ (l : DriverView). l.cycle) is in
        let c : ℕ = g.lead.cycle in
        let found : ℕ = get_or s.words (status_place p.shape p.driver) 0 in
        let ts : List ℕ = p.targets p.driver in
        dite (ℕ_discrete found (triggered_word me.0.lead.cycle))
        (λ e. let runs_on : is_resetting g.lead.drive ≡ true → ⊥ = λ z. true≢false (sym z ∙ ap is_resetting drive) in
        let runs = words_run p g g.lead.drive s.words runs_on a.laid in
        let whole : Whole = with_lead g (lead_to g drives.Awake g.lead) in
        let ws : List ℕ = set s.words (status_place p.shape p.driver) (awake_word c) in
        let rest : (progress p g).rest p.driver ≡ [] = rest_driver p g ∙ ap (drive_rest ts) drive in
        let owing : (progress p g).owing p.driver ≡ [] = owing_driver p g ∙ ap (drive_owing ts) drive in
        let woken = wakes p.shape c p.driver (progress p g) (progress p whole) s.words hm wide (beside p g drives.Awake g.lead)
        (rest_driver p whole ∙ sym rest) (owing_driver p whole ∙ sym owing) (e ∙ ap (triggered_word) cycle)
        (stage_driver p whole) runs in
        let same : lead_drawn g.lead ≡ 5 * c + (1 + cond g.lead.checked 1 0) =
        ap (λ d. 5 * c + cond (is_between d) 0 (drive_drawn d + cond g.lead.checked 1 0)) drive in (
          view_lead me.0 (record me.0.lead { drive = drives.Awake }) t,
          keeps,
          tt,
          subst (λ b. Holds p (stepped s (status_place p.shape p.driver) (either b (awake_word me.0.lead.cycle) found) id me.1
              (view_lead me.0 (record me.0.lead { drive = drives.Awake }) t) keeps))
              (sym (eq-eqb found (triggered_word me.0.lead.cycle) e))
              (subst (λ (l : DriverView). Holds p (stepped s (status_place p.shape p.driver) (awake_word l.cycle) id me.1
              (view_lead me.0 (record l { drive = drives.Awake }) t) keeps)) (sym is)
              (holds_lead p s r id (status_place p.shape p.driver) (awake_word c) me.0 me.1
              (lead_to g drives.Awake g.lead) t at number looks (omega arith) (omega arith) (omega arith)
              (quiet_drive g.lead drives.Waiting drives.Awake drive record {
                started = refl;
                finished = refl;
                holds = λ _. refl;
                tells = λ _ _. refl;
                sees = λ _. refl;
                begun = refl;
                ending = refl;
                checking = refl;
                looking = refl;
              }) (drive_paced g.lead drives.Waiting (lead_to g drives.Awake g.lead) drive refl refl (omega arith))
              (active_lead p g s.words ws drives.Awake g.lead tt (λ z. true≢false (sym z))
              (a.within (runs_within g.lead.drive runs_on)) woken a))),
          (sym (ap after e ∙ hit), refl),
        ))
        (λ e. (
          view_trail me.0 (seen found),
          keeps,
          tt,
          subst (λ b. Holds p (stepped s (status_place p.shape p.driver) (either b (awake_word me.0.lead.cycle) found) id me.1
              (view_trail me.0 (seen found)) keeps)) (sym (ne_eqb found (triggered_word me.0.lead.cycle) e))
              (remembers p s r id (status_place p.shape p.driver) me (seen found) at (looks_on found)),
          (sym (miss found e), refl),
        ))
