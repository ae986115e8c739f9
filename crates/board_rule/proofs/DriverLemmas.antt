-- What a step of the driver's seat has to show, and its kicks: it lowers a target, or triggers one.
use Rattle.std.proofs.Common.{◌≡◌, ◌≢◌, ℕ, suc, ◌+◌, ◌-◌, ◌*◌, ◌%◌, ◌^◌, ◌<◌, ◌≤◌, Bool, true, false, true≢false}
use Rattle.std.proofs.Common.{cond, eqb, List, [], ◌∷◌, drop, length, set, get_or, refl, sym, ap, ◌∙◌, subst, arith, eq-eqb, ne_eqb}
use Rattle.std.proofs.Common.{eqb-true, length-set}
use mathlib.Core.Option.{some}
use lib.ListN.{get_elem?}
use Rattle.std.proofs.lemmas.List.{drop_more, drop_all}
use Rattle.atomic_table.specs.Table.{State, Me, keeps, stepped, Allows}
use Rattle.board_rule.specs.declared.view.DriverPhase.{DriverPhase}
use Rattle.board_rule.specs.declared.view.DriverPhase.TheVariants as drives
use Rattle.board_rule.specs.declared.view.DriverView.{DriverView}
use Rattle.board_rule.specs.declared.view.Trail.{Trail}
use Rattle.board_rule.specs.declared.view.View.{View}
use Rattle.pw_graph.specs.Layout.{pending_place, status_place}
use Rattle.pw_graph.specs.Words.{triggered_word}
use Rattle.board_rule.specs.Layout.{BoardLayout, nodes, last}
use Rattle.board_rule.specs.activation.Phases.{owed_of, phase_rest, phase_owing, phase_stage, drive_rest, drive_owing, drive_stage, drive_drawn}
use Rattle.board_rule.specs.activation.Phases.{is_resetting, is_between}
use Rattle.board_rule.specs.View.{Whole, with_lead, view_lead}
use Rattle.board_rule.specs.activation.ActivationRule.{Activations, DriverPhaseOk, progress}
use Rattle.board_rule.specs.events.EventRule.{lead_drawn}
use Rattle.board_rule.specs.events.Bits.{AreOfNodes}
use Rattle.board_rule.specs.buffers.BufferRule.{Buffers}
use Rattle.board_rule.specs.buffers.Spans.{spans}
use Rattle.board_rule.specs.BoardRule.{Holds}
use Rattle.board_rule.specs.Steps.{kicked, taken_of, CanKick, KickIndebted}
use Rattle.board_rule.specs.working.Plays.{Leaves, Learns}
use Rattle.board_rule.proofs.buffers.SpanLemmas.{IsLeadPaced, drive_paced, kicked_paced, buffers_lead, wired_in, early_word}
use Rattle.board_rule.proofs.RunLemmas.{Sums, Elsewhere, positive, lowers, triggers}
use Rattle.board_rule.proofs.activation.PhaseLemmas.{owed_is}
use Rattle.board_rule.proofs.start.SeatLemmas.{lead_step}
use Rattle.board_rule.proofs.events.MarkLemmas.{QuietDrives, QuietLead, quiet_drive}
use Rattle.board_rule.proofs.events.TicketLemmas.{events_lead}
use Rattle.board_rule.proofs.activation.FollowerLemmas.{rest_at, owing_at, stage_at, words_run, run_words}

-- the driver's seat in another phase of the same cycle
abbrev pub lead_to : Whole → DriverPhase → DriverView → DriverView
lead_to g d y = record y { cycle = g.lead.cycle; drive = d }

-- a phase outside the reset is not between two cycles
pub runs_within : (d : DriverPhase) → (is_resetting d ≡ true → ⊥) → is_between d ≡ false
runs_within drives.Between h = absurd (h refl)
runs_within drives.BeginDrawn h = absurd (h refl)
runs_within (drives.Reset i) h = absurd (h refl)
runs_within (drives.Half i) h = absurd (h refl)
runs_within (drives.Kick i o) h = refl
runs_within drives.Waiting h = refl
runs_within drives.Checking h = refl
runs_within drives.LateStored h = refl
runs_within drives.Awake h = refl
runs_within drives.StartDrawn h = refl
runs_within drives.Running h = refl
runs_within drives.Done h = refl
runs_within drives.FinishDrawn h = refl
runs_within drives.FinishStored h = refl
runs_within drives.EndDrawn h = refl

module _ (p : BoardLayout) where
  pub rest_driver : (g : Whole) → (progress p g).rest p.driver ≡ drive_rest (p.targets p.driver) g.lead.drive
  rest_driver g = ap (λ b. cond b (drive_rest (p.targets p.driver) g.lead.drive)
      (phase_rest (p.targets p.driver) (eqb (g.nodes p.driver).next g.lead.cycle) (g.nodes p.driver).phase)) (eq-eqb p.driver p.driver refl)

  pub owing_driver : (g : Whole) → (progress p g).owing p.driver ≡ drive_owing (p.targets p.driver) g.lead.drive
  owing_driver g = ap (λ b. cond b (drive_owing (p.targets p.driver) g.lead.drive)
      (phase_owing (p.targets p.driver) (g.nodes p.driver).phase)) (eq-eqb p.driver p.driver refl)

  pub stage_driver : (g : Whole) → (progress p g).stage p.driver ≡ drive_stage g.lead.drive
  stage_driver g = ap (λ b. cond b (drive_stage g.lead.drive)
      (phase_stage (eqb (g.nodes p.driver).next g.lead.cycle) (g.nodes p.driver).phase)) (eq-eqb p.driver p.driver refl)

  pub beside : (g : Whole) (d : DriverPhase) (y : DriverView) → Elsewhere p.driver (progress p g) (progress p (with_lead g (lead_to g d y)))
  beside g d y = let h = with_lead g (lead_to g d y) in record {
    rest = λ i o. rest_at p h i o ∙ sym (rest_at p g i o);
    owing = λ i o. owing_at p h i o ∙ sym (owing_at p g i o);
    stage = λ i o. stage_at p h i o ∙ sym (stage_at p g i o);
  }

  -- the activation rule after a step of the driver's seat outside the reset
  pub active_lead : (g : Whole) (ws after : List ℕ) (d : DriverPhase) (y : DriverView) → DriverPhaseOk p d → (is_resetting d ≡ true → ⊥)
      → g.lead.cycle < last p → Sums p.shape g.lead.cycle (progress p (with_lead g (lead_to g d y))) after → Activations p g ws
      → Activations p (with_lead g (lead_to g d y)) after
  active_lead g ws after d y ok runs_on within r a = record {
    later = a.later;
    early = a.early;
    within = λ _. within;
    drive = ok;
    followers = a.followers;
    resting = λ z. absurd (runs_on z);
    laid = run_words p (with_lead g (lead_to g d y)) d after runs_on r;
  }

  kicked_by : (ts : List ℕ) (i : ℕ) (b : Bool) → (b ≡ true → drop i ts ≡ [])
      → drive_rest ts (cond b drives.Waiting (drives.Kick i false)) ≡ drop i ts
  kicked_by ts i true h = sym (h refl)
  kicked_by ts i false h = refl

  kicked_owing_by : (ts : List ℕ) (i : ℕ) (b : Bool) → drive_owing ts (cond b drives.Waiting (drives.Kick i false)) ≡ []
  kicked_owing_by ts i true = refl
  kicked_owing_by ts i false = refl

  kicked_stage_by : (i : ℕ) (b : Bool) → drive_stage (cond b drives.Waiting (drives.Kick i false)) ≡ 0
  kicked_stage_by i true = refl
  kicked_stage_by i false = refl

  kicked_ok_by : (i : ℕ) (b : Bool) → (b ≡ false → i < length (p.targets p.driver))
      → DriverPhaseOk p (cond b drives.Waiting (drives.Kick i false))
  kicked_ok_by i true h = tt
  kicked_ok_by i false h = h refl

  kicked_runs_by : (i : ℕ) (b : Bool) → is_resetting (cond b drives.Waiting (drives.Kick i false)) ≡ true → ⊥
  kicked_runs_by i true e = true≢false (sym e)
  kicked_runs_by i false e = true≢false (sym e)

  kicked_rest : (ts : List ℕ) (i : ℕ) (owes : Bool) → drive_rest ts (kicked (length ts) i owes) ≡ drop i ts
  kicked_rest ts i true = refl
  kicked_rest ts i false = kicked_by ts i (eqb i (length ts)) (λ t. drop_all i ts (let a = eqb-true i (length ts) t in omega arith))

  kicked_owing : (ts : List ℕ) (i : ℕ) (owes : Bool) → drive_owing ts (kicked (length ts) i owes) ≡ owed_of ts i owes
  kicked_owing ts i true = refl
  kicked_owing ts i false = kicked_owing_by ts i (eqb i (length ts))

  kicked_stage : (n i : ℕ) (owes : Bool) → drive_stage (kicked n i owes) ≡ 0
  kicked_stage n i true = refl
  kicked_stage n i false = kicked_stage_by i (eqb i n)

  kicked_ok : (i : ℕ) (owes : Bool) → 0 < i → i ≤ length (p.targets p.driver) → DriverPhaseOk p (kicked (length (p.targets p.driver)) i owes)
  kicked_ok i true low high = (low, high)
  kicked_ok i false low high = kicked_ok_by i (eqb i (length (p.targets p.driver)))
      (λ t. let o : i ≢ length (p.targets p.driver) = λ e. true≢false (sym (eq-eqb i (length (p.targets p.driver)) e) ∙ t) in omega arith)

  kicked_runs : (n i : ℕ) (owes : Bool) → is_resetting (kicked n i owes) ≡ true → ⊥
  kicked_runs n i true e = true≢false (sym e)
  kicked_runs n i false e = kicked_runs_by i (eqb i n) e

  kicked_drawn : (n i c : ℕ) (k owes : Bool) → 5 * c + cond (is_between (kicked n i owes)) 0 (drive_drawn (kicked n i owes) + cond k 1 0)
      ≡ 5 * c + (1 + cond k 1 0)
  kicked_drawn n i c k true = refl
  kicked_drawn n i c k false = by (eqb i n)
    where
      by : (b : Bool) → 5 * c + cond (is_between (cond b drives.Waiting (drives.Kick i false))) 0
          (drive_drawn (cond b drives.Waiting (drives.Kick i false)) + cond k 1 0) ≡ 5 * c + (1 + cond k 1 0)
      by true = refl
      by false = refl

  kicked_quiet_by : (j i : ℕ) (o b : Bool) → QuietDrives (drives.Kick j o) (cond b drives.Waiting (drives.Kick i false))
  kicked_quiet_by j i o true = record {
    started = refl;
    finished = refl;
    holds = λ _. refl;
    tells = λ _ _. refl;
    sees = λ _. refl;
    begun = refl;
    ending = refl;
    checking = refl;
    looking = refl;
  }
  kicked_quiet_by j i o false = record {
    started = refl;
    finished = refl;
    holds = λ _. refl;
    tells = λ _ _. refl;
    sees = λ _. refl;
    begun = refl;
    ending = refl;
    checking = refl;
    looking = refl;
  }

  kicked_quiet : (j n i : ℕ) (o owes : Bool) → QuietDrives (drives.Kick j o) (kicked n i owes)
  kicked_quiet j n i o true = record {
    started = refl;
    finished = refl;
    holds = λ _. refl;
    tells = λ _ _. refl;
    sees = λ _. refl;
    begun = refl;
    ending = refl;
    checking = refl;
    looking = refl;
  }
  kicked_quiet j n i o false = kicked_quiet_by j i o (eqb i n)

  module _ {S : Type 0} where
    -- what the driver's view says of the whole
    pub lead_is : (s : State S View) (r : Holds p s) (id : ℕ) (v : View) → get_elem? s.views id ≡ some v → v.number ≡ p.seats
        → v.lead ≡ r.whole.lead
    lead_is s r id v at number = ((r.seated.knows id v at).is_driver number).0

    -- a step of the driver's seat, on the word i: what each part of the rule has to show
    pub holds_lead_by : (s : State S View) (r : Holds p s) (id i n : ℕ) (v : View) (carry : List (ℕ × S)) (x : DriverView) (t : Trail)
        → get_elem? s.views id ≡ some v → v.number ≡ p.seats → t.looks ≡ v.trail.looks → 0 < i → i ≤ nodes p + nodes p
        → lead_drawn r.whole.lead ≤ lead_drawn x → QuietLead r.whole.lead x
        → Activations p (with_lead r.whole x) (set s.words i n)
        → Buffers p (spans p (with_lead r.whole x)) r.whole.ends r.whole.expect (set s.words i n)
        → Holds p (stepped s i n id carry (view_lead v x t) keeps)
    holds_lead_by s r id i n v carry x t at number looks low high more quiet active buffers = record {
      whole = with_lead r.whole x;
      seated = lead_step p r.whole s.words (set s.words i n) s.views id v x t r.whole.looks at (length-set s.words i n) number
          (looks ∙ ((r.seated.knows id v at).is_driver number).2) (subst AreOfNodes (sym looks) ((r.seated.knows id v at).looks number)) r.seated;
      activations = active;
      events = events_lead p r.whole s.words i n x more quiet low high r.events;
      buffers = buffers;
    }

    -- and where it ends no cycle
    pub holds_lead : (s : State S View) (r : Holds p s) (id i n : ℕ) (v : View) (carry : List (ℕ × S)) (x : DriverView) (t : Trail)
        → get_elem? s.views id ≡ some v → v.number ≡ p.seats → t.looks ≡ v.trail.looks → 0 < i → i ≤ nodes p + nodes p
        → lead_drawn r.whole.lead ≤ lead_drawn x → QuietLead r.whole.lead x
        → IsLeadPaced r.whole.lead x → Activations p (with_lead r.whole x) (set s.words i n)
        → Holds p (stepped s i n id carry (view_lead v x t) keeps)
    holds_lead s r id i n v carry x t at number looks low high more quiet paced active =
        holds_lead_by s r id i n v carry x t at number looks low high more quiet active
        (buffers_lead p r.whole s.words (set s.words i n) x (wired_in p r.whole s.words s.views r.seated) paced
        (early_word p s.words i n high) r.buffers)

    pub kick_allowed : (slots id i n : ℕ) (me : Me S View) (t : ℕ → Trail) (after : ℕ → View) (says : ℕ → Type 0) → me.0.number ≡ p.seats
        → ((found : ℕ) → (t found).looks ≡ me.0.trail.looks) → me.0.lead.drive ≡ drives.Kick i false → i < length (p.targets p.driver)
        → get_or (p.targets p.driver) i 0 ≡ n
        → ((found : ℕ) → after found ≡ view_lead me.0 (record me.0.lead
        { drive = kicked (length (p.targets p.driver)) (i + 1) (eqb found 1) }) (t found))
        → ((found : ℕ) → 0 < found → says found)
        → Allows (Holds p) slots id me (pending_place p.shape n) (λ w. (w + (2 ^ 64 - 1)) % 2 ^ 64) (Learns after says me)
    kick_allowed slots id i n me t after says number looks phase near target is_after it s r _ at fits =
        let g = r.whole in let a = r.activations in let sound = r.seated.sound in let wide = r.seated.wide in let m = p.driver in
        let hm = sound.driver_in in
        let is = lead_is s r id me.0 at number in
        let drive : g.lead.drive ≡ drives.Kick i false = ap (λ (l : DriverView). l.drive) (sym is) ∙ phase in
        let c : ℕ = g.lead.cycle in
        let ts : List ℕ = p.targets p.driver in
        let runs_on : is_resetting g.lead.drive ≡ true → ⊥ = λ e. true≢false (sym (sym (ap is_resetting drive) ∙ e)) in
        let runs = words_run p g g.lead.drive s.words runs_on a.laid in
        let found : ℕ = get_or s.words (pending_place p.shape n) 0 in
        let new : DriverPhase = kicked (length ts) (suc i) (eqb found 1) in
        let whole : Whole = with_lead g (lead_to g new g.lead) in
        let inside : n < nodes p = subst (λ k. k < nodes p) target (sound.targets_in m i hm near) in
        let one : i + 1 ≡ suc i = omega arith in
        let next : drop i ts ≡ n ∷ drop (suc i) ts = drop_more ts i 0 near ∙ (λ j. target j ∷ drop (one j) ts) in
        let rest : (progress p g).rest m ≡ drop i ts = rest_driver g ∙ ap (drive_rest ts) drive in
        let owing : (progress p g).owing m ≡ [] = owing_driver g ∙ ap (drive_owing ts) drive in
        let stage : (progress p g).stage m ≡ 0 = stage_driver g ∙ ap drive_stage drive in
        let above = positive p.shape m n (progress p g) (drop (suc i) ts) hm (rest ∙ next) in
        let counts = (runs.node n inside).counts in
        let rest' : (progress p whole).rest m ≡ drop (suc i) ts = rest_driver whole ∙ kicked_rest ts (suc i) (eqb found 1) in
        let owing' : (progress p whole).owing m ≡ owed_of ts (suc i) (eqb found 1) = owing_driver whole
        ∙ kicked_owing ts (suc i) (eqb found 1) in
        let stage' : (progress p whole).stage m ≡ 0 = stage_driver whole ∙ kicked_stage (length ts) (suc i) (eqb found 1) in
        let lowered = lowers p.shape c m n (found - 1) (progress p g) (progress p whole) s.words hm inside wide (beside g new g.lead)
        (stage' ∙ sym stage) (rest ∙ next ∙ ap (λ k. n ∷ k) (sym rest')) owing
        (λ e. owing' ∙ ap (owed_of ts (suc i)) (eq-eqb found 1 e) ∙ owed_is ts i n near target)
        (λ e. owing' ∙ ap (owed_of ts (suc i)) (ne_eqb found 1 e)) (omega arith) runs in
        let word : (found + (2 ^ 64 - 1)) % 2 ^ 64 ≡ found - 1 = omega arith in
        let drawn = kicked_drawn (length ts) (suc i) c g.lead.checked (eqb found 1) in
        let before : lead_drawn g.lead ≡ 5 * c + (1 + cond g.lead.checked 1 0) =
        ap (λ d. 5 * c + cond (is_between d) 0 (drive_drawn d + cond g.lead.checked 1 0)) drive in (
          view_lead me.0 (record me.0.lead { drive = kicked (length ts) (i + 1) (eqb found 1) }) (t found),
          keeps,
          tt,
          subst (λ (k : ℕ × DriverView × ℕ). Holds p (stepped s (pending_place p.shape n) k.0 id me.1
              (view_lead me.0 (record k.1 { drive = kicked (length ts) k.2 (eqb found 1) }) (t found)) keeps))
              (λ j. (sym word j, sym is j, sym one j))
              (holds_lead s r id (pending_place p.shape n) (found - 1) me.0 me.1 (lead_to g new g.lead) (t found) at number (looks found)
              (omega arith) (omega arith) (omega arith) (quiet_drive g.lead (drives.Kick i false) new drive
              (kicked_quiet i (length ts) (suc i) false (eqb found 1)))
              (let z = kicked_paced (length ts) (suc i) (eqb found 1) in
              drive_paced g.lead (drives.Kick i false) (lead_to g new g.lead) drive refl z.0 (omega arith))
              (active_lead g s.words (set s.words (pending_place p.shape n) (found - 1)) new g.lead
              (kicked_ok (suc i) (eqb found 1) (omega arith) (omega arith)) (kicked_runs (length ts) (suc i) (eqb found 1))
              (a.within (runs_within g.lead.drive runs_on)) lowered a)),
          (sym (is_after found), refl, it found (omega arith)),
        )

    pub kick_trigger_allowed : (slots id i n : ℕ) (me : Me S View) (t : Trail) (after : ℕ → View) → me.0.number ≡ p.seats
        → t.looks ≡ me.0.trail.looks → me.0.lead.drive ≡ drives.Kick (suc i) true → get_or (p.targets p.driver) i 0 ≡ n
        → ((found : ℕ) → after found ≡ view_lead me.0 (record me.0.lead { drive = kicked (length (p.targets p.driver)) (suc i) false }) t)
        → Allows (Holds p) slots id me (status_place p.shape n) (λ _. triggered_word me.0.lead.cycle)
        (λ _. Leaves after me (triggered_word me.0.lead.cycle))
    kick_trigger_allowed slots id i n me t after number looks phase target is_after s r _ at fits =
        let g = r.whole in let a = r.activations in let sound = r.seated.sound in let wide = r.seated.wide in let m = p.driver in
        let hm = sound.driver_in in
        let is = lead_is s r id me.0 at number in
        let drive : g.lead.drive ≡ drives.Kick (suc i) true = ap (λ (l : DriverView). l.drive) (sym is) ∙ phase in
        let c : ℕ = g.lead.cycle in
        let ts : List ℕ = p.targets p.driver in
        let ok : DriverPhaseOk p (drives.Kick (suc i) true) = subst (DriverPhaseOk p) drive a.drive in let high = ok.1 in
        let runs_on : is_resetting g.lead.drive ≡ true → ⊥ = λ e. true≢false (sym (sym (ap is_resetting drive) ∙ e)) in
        let runs = words_run p g g.lead.drive s.words runs_on a.laid in
        let new : DriverPhase = kicked (length ts) (suc i) false in
        let whole : Whole = with_lead g (lead_to g new g.lead) in
        let inside : n < nodes p = subst (λ k. k < nodes p) target (sound.targets_in m i hm (omega arith)) in
        let rest : (progress p g).rest m ≡ drop (suc i) ts = rest_driver g ∙ ap (drive_rest ts) drive in
        let owing : (progress p g).owing m ≡ n ∷ [] = owing_driver g ∙ ap (drive_owing ts) drive ∙ owed_is ts i n (omega arith) target in
        let stage : (progress p g).stage m ≡ 0 = stage_driver g ∙ ap drive_stage drive in
        let rest' : (progress p whole).rest m ≡ drop (suc i) ts = rest_driver whole ∙ kicked_rest ts (suc i) false in
        let owing' : (progress p whole).owing m ≡ [] = owing_driver whole ∙ kicked_owing ts (suc i) false in
        let stage' : (progress p whole).stage m ≡ 0 = stage_driver whole ∙ kicked_stage (length ts) (suc i) false in
        let triggered = triggers p.shape c m n (progress p g) (progress p whole) s.words hm inside wide (beside g new g.lead) (stage' ∙ sym stage)
        (rest' ∙ sym rest) owing owing' runs in
        let drawn = kicked_drawn (length ts) (suc i) c g.lead.checked false in
        let before : lead_drawn g.lead ≡ 5 * c + (1 + cond g.lead.checked 1 0) =
        ap (λ d. 5 * c + cond (is_between d) 0 (drive_drawn d + cond g.lead.checked 1 0)) drive in (
          view_lead me.0 (record me.0.lead { drive = new }) t,
          keeps,
          tt,
          subst (λ (l : DriverView). Holds p (stepped s (status_place p.shape n) (triggered_word l.cycle) id me.1
              (view_lead me.0 (record l { drive = new }) t) keeps)) (sym is)
              (holds_lead s r id (status_place p.shape n) (triggered_word c) me.0 me.1 (lead_to g new g.lead) t at number looks
              (omega arith) (omega arith) (omega arith) (quiet_drive g.lead (drives.Kick (suc i) true) new drive
              (kicked_quiet (suc i) (length ts) (suc i) true false))
              (let z = kicked_paced (length ts) (suc i) false in
              drive_paced g.lead (drives.Kick (suc i) true) (lead_to g new g.lead) drive refl z.0 (omega arith))
              (active_lead g s.words (set s.words (status_place p.shape n) (triggered_word c)) new g.lead
              (kicked_ok (suc i) false (omega arith) (omega arith)) (kicked_runs (length ts) (suc i) false)
              (a.within (runs_within g.lead.drive runs_on)) triggered a)),
          (sym (is_after (triggered_word me.0.lead.cycle)), refl),
        )

-- the driver's seat can lower its next target, or owes its last one
pub can_kick : (n : ℕ) (d : DriverPhase) → CanKick n d → (d ≡ drives.Kick (taken_of d) false) × taken_of d < n
can_kick n drives.Between h = absurd h
can_kick n drives.BeginDrawn h = absurd h
can_kick n (drives.Reset i) h = absurd h
can_kick n (drives.Half i) h = absurd h
can_kick n (drives.Kick i true) h = absurd h
can_kick n (drives.Kick i false) h = (refl, h)
can_kick n drives.Waiting h = absurd h
can_kick n drives.Checking h = absurd h
can_kick n drives.LateStored h = absurd h
can_kick n drives.Awake h = absurd h
can_kick n drives.StartDrawn h = absurd h
can_kick n drives.Running h = absurd h
can_kick n drives.Done h = absurd h
can_kick n drives.FinishDrawn h = absurd h
can_kick n drives.FinishStored h = absurd h
can_kick n drives.EndDrawn h = absurd h

pub kick_in_debt : (n : ℕ) (d : DriverPhase) → KickIndebted n d → (d ≡ drives.Kick (suc (taken_of d - 1)) true)
    × (suc (taken_of d - 1) ≡ taken_of d) × (taken_of d - 1 < n)
kick_in_debt n drives.Between h = absurd h
kick_in_debt n drives.BeginDrawn h = absurd h
kick_in_debt n (drives.Reset i) h = absurd h
kick_in_debt n (drives.Half i) h = absurd h
kick_in_debt n (drives.Kick i false) h = absurd h
kick_in_debt n (drives.Kick i true) h = let a = h.0 in let b = h.1 in let e : suc (i - 1) ≡ i = omega arith in
    (ap (λ k. let d : DriverPhase = drives.Kick k true in d) (sym e), e, omega arith)
kick_in_debt n drives.Waiting h = absurd h
kick_in_debt n drives.Checking h = absurd h
kick_in_debt n drives.LateStored h = absurd h
kick_in_debt n drives.Awake h = absurd h
kick_in_debt n drives.StartDrawn h = absurd h
kick_in_debt n drives.Running h = absurd h
kick_in_debt n drives.Done h = absurd h
kick_in_debt n drives.FinishDrawn h = absurd h
kick_in_debt n drives.FinishStored h = absurd h
kick_in_debt n drives.EndDrawn h = absurd h
