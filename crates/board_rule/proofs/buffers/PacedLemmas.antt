-- What the buffer rule gets from the activation rule: a node begins a cycle only after the writers
-- of its links have ended it, and all nodes are within one cycle.
use Rattle.std.proofs.Common.{◌≡◌, ◌≢◌, ℕ, ◌+◌, ◌<◌, ◌≤◌, Bool, true, false, true≢false, cond, eqb, List, [], length, refl, sym, ap, ◌∙◌}
use Rattle.std.proofs.Common.{subst, arith, eq-eqb, ne_eqb}
use mathlib.Core.Logic.{dite}
use native.Mathlib.Decide.{ℕ_discrete, dec_le}
use Rattle.pw_graph.specs.declared.shape.ShapeLink.{ShapeLink}
use Rattle.board_rule.specs.declared.view.Phase.{Phase}
use Rattle.board_rule.specs.declared.view.Phase.TheVariants.{Idle, Awake, StartDrawn, Running, Done, FinishDrawn, Telling}
use Rattle.board_rule.specs.declared.view.DriverPhase.{DriverPhase}
use Rattle.board_rule.specs.declared.view.DriverPhase.TheVariants as drives
use Rattle.board_rule.specs.Layout.{BoardLayout, nodes, first}
use Rattle.board_rule.specs.Sums.{times}
use Rattle.board_rule.specs.activation.Phases.{phase_rest, phase_stage, PhaseOk, drive_stage, is_resetting}
use Rattle.board_rule.specs.View.{Whole}
use Rattle.board_rule.specs.activation.ActivationRule.{Activations, progress}
use Rattle.board_rule.specs.buffers.Areas.{delay_by, Span}
use Rattle.board_rule.specs.buffers.Spans.{phase_over, phase_begun, drive_over, drive_begun, spans}
use Rattle.board_rule.proofs.RunLemmas.{begun_told}
use Rattle.board_rule.proofs.buffers.SpanLemmas.{over_at, begun_at, over_lead, begun_lead}
use Rattle.board_rule.proofs.activation.FollowerLemmas.{rest_at, stage_at, words_run}
use Rattle.board_rule.proofs.DriverLemmas.{stage_driver}
use Rattle.board_rule.proofs.buffers.WiredLemmas.{LinkAt, Wired}

-- a follower has ended the cycles before the driver's, and begun no later one
phase_span : (n c next : ℕ) (f : Phase) → PhaseOk n c next f → (c ≤ next + phase_over f) × (next + phase_over f ≤ next + phase_begun f)
    × (next + phase_begun f ≤ c + 1)
phase_span n c next Idle h = let a = h.0 in let b = h.1 in (omega arith, omega arith, omega arith)
phase_span n c next Awake h = (omega arith, omega arith, omega arith)
phase_span n c next StartDrawn h = (omega arith, omega arith, omega arith)
phase_span n c next Running h = (omega arith, omega arith, omega arith)
phase_span n c next Done h = (omega arith, omega arith, omega arith)
phase_span n c next FinishDrawn h = (omega arith, omega arith, omega arith)
phase_span n c next (Telling i o) h = let a = h.0 in (omega arith, omega arith, omega arith)

-- one that has begun this cycle has woken in it
begun_woken : (n c next : ℕ) (f : Phase) → PhaseOk n c next f → c < next + phase_begun f → 0 < phase_stage (eqb next c) f
begun_woken n c next Idle h l = let e : phase_stage (eqb next c) Idle ≡ 2 = ap (λ b. cond b 0 2) (ne_eqb next c (λ z. omega arith)) in
    omega arith
begun_woken n c next Awake h l = omega arith
begun_woken n c next StartDrawn h l = omega arith
begun_woken n c next Running h l = omega arith
begun_woken n c next Done h l = omega arith
begun_woken n c next FinishDrawn h l = omega arith
begun_woken n c next (Telling i o) h l = omega arith

-- one that has told n has ended this cycle
still_left : (ts : List ℕ) (c next n : ℕ) → next ≡ c → 0 < times n ts → times n (cond (eqb next c) ts []) ≡ 0 → ⊥
still_left ts c next n e dep none = let b : times n ts ≡ 0 = sym (ap (λ b. times n (cond b ts [])) (eq-eqb next c e)) ∙ none in
    absurd (omega arith)

told_over : (ts : List ℕ) (len c next n : ℕ) (f : Phase) → PhaseOk len c next f → 0 < times n ts
    → times n (phase_rest ts (eqb next c) f) ≡ 0 → next + phase_over f ≡ c + 1
told_over ts len c next n Idle ok dep none = dite (ℕ_discrete next c) (λ q. absurd (still_left ts c next n q dep none))
    (λ q. let a = ok.0 in let b = ok.1 in omega arith)
told_over ts len c next n Awake ok dep none = absurd (still_left ts c next n ok dep none)
told_over ts len c next n StartDrawn ok dep none = absurd (still_left ts c next n ok dep none)
told_over ts len c next n Running ok dep none = absurd (still_left ts c next n ok dep none)
told_over ts len c next n Done ok dep none = absurd (still_left ts c next n ok dep none)
told_over ts len c next n FinishDrawn ok dep none = absurd (still_left ts c next n ok dep none)
told_over ts len c next n (Telling i o) ok dep none = let a = ok.0 in omega arith

drive_span : (d : DriverPhase) → (drive_over d ≤ drive_begun d) × (drive_begun d ≤ 1)
drive_span drives.Between = (omega arith, omega arith)
drive_span drives.BeginDrawn = (omega arith, omega arith)
drive_span (drives.Reset i) = (omega arith, omega arith)
drive_span (drives.Half i) = (omega arith, omega arith)
drive_span (drives.Kick i o) = (omega arith, omega arith)
drive_span drives.Waiting = (omega arith, omega arith)
drive_span drives.Checking = (omega arith, omega arith)
drive_span drives.LateStored = (omega arith, omega arith)
drive_span drives.Awake = (omega arith, omega arith)
drive_span drives.StartDrawn = (omega arith, omega arith)
drive_span drives.Running = (omega arith, omega arith)
drive_span drives.Done = (omega arith, omega arith)
drive_span drives.FinishDrawn = (omega arith, omega arith)
drive_span drives.FinishStored = (omega arith, omega arith)
drive_span drives.EndDrawn = (omega arith, omega arith)

drive_awake : (d : DriverPhase) → 0 < drive_begun d → (is_resetting d ≡ true → ⊥) × (0 < drive_stage d)
drive_awake drives.Running h = ((λ z. true≢false (sym z)), omega arith)
drive_awake drives.Done h = ((λ z. true≢false (sym z)), omega arith)
drive_awake drives.FinishDrawn h = ((λ z. true≢false (sym z)), omega arith)
drive_awake drives.FinishStored h = ((λ z. true≢false (sym z)), omega arith)
drive_awake drives.EndDrawn h = ((λ z. true≢false (sym z)), omega arith)
drive_awake drives.Between h = absurd (omega arith)
drive_awake drives.BeginDrawn h = absurd (omega arith)
drive_awake (drives.Reset i) h = absurd (omega arith)
drive_awake (drives.Half i) h = absurd (omega arith)
drive_awake (drives.Kick i o) h = absurd (omega arith)
drive_awake drives.Waiting h = absurd (omega arith)
drive_awake drives.Checking h = absurd (omega arith)
drive_awake drives.LateStored h = absurd (omega arith)
drive_awake drives.Awake h = absurd (omega arith)
drive_awake drives.StartDrawn h = absurd (omega arith)

module _ (p : BoardLayout) where
  -- what the activation rule says of the spans of all indexes
  pub record Paced (s : ℕ → Span) : Type 0 where
    pub first : (n : ℕ) → n < nodes p → first p ≤ (s n).ended
    pub begun : (n : ℕ) → n < nodes p → (s n).ended ≤ (s n).begun
    pub near : (m n : ℕ) → m < nodes p → n < nodes p → (s m).begun ≤ (s n).ended + 1
    pub ordered : (l : ℕ) (k : ShapeLink) → LinkAt p l k → (s (p.index k.to.node)).begun ≤ (s (p.index k.from.node)).ended + delay_by k
    pub last : (n : ℕ) → n < nodes p → n ≢ p.driver → (s p.driver).begun ≤ (s n).ended

  -- all nodes are in the driver's cycle
  pub in_cycle : (g : Whole) (ws : List ℕ) → Activations p g ws → (n : ℕ) → n < nodes p → (g.lead.cycle ≤ (spans p g n).ended)
      × ((spans p g n).ended ≤ (spans p g n).begun) × ((spans p g n).begun ≤ g.lead.cycle + 1)
  in_cycle g ws a n h = dite (ℕ_discrete n p.driver)
      (λ q. let x = over_lead p g n q in let y = begun_lead p g n q in let z = drive_span g.lead.drive in let z₀ = z.0 in let z₁ = z.1 in
      (omega arith, omega arith, omega arith))
      (λ q. let x = over_at p g n q in let y = begun_at p g n q in
      let z = phase_span (length (p.targets n)) g.lead.cycle (g.nodes n).next (g.nodes n).phase (a.followers n h q) in let z₀ = z.0 in
      let z₁ = z.1 in let z₂ = z.2 in (omega arith, omega arith, omega arith))

  -- where the cycle runs and n has woken, each node that it waits for is over
  told : (g : Whole) (ws : List ℕ) (m n : ℕ) → Activations p g ws → m < nodes p → n < nodes p → m ≢ p.driver → 0 < times n (p.targets m)
      → (is_resetting g.lead.drive ≡ true → ⊥) → 0 < (progress p g).stage n → (spans p g m).ended ≡ g.lead.cycle + 1
  told g ws m n a hm hn follows dep runs_on woken = over_at p g m follows
      ∙ told_over (p.targets m) (length (p.targets m)) g.lead.cycle (g.nodes m).next n (g.nodes m).phase (a.followers m hm follows) dep
      (sym (ap (times n) (rest_at p g m follows)) ∙ begun_told p.shape g.lead.cycle n m (progress p g) ws hn hm woken
      (words_run p g g.lead.drive ws runs_on a.laid))

  -- a node begins a cycle only after each node that it waits for has ended it
  waits : (g : Whole) (ws : List ℕ) (m n : ℕ) → Activations p g ws → m < nodes p → n < nodes p → m ≢ p.driver → 0 < times n (p.targets m)
      → (spans p g n).begun ≤ (spans p g m).ended
  waits g ws m n a hm hn follows dep = let x = in_cycle g ws a n hn in let y = in_cycle g ws a m hm in let y₀ = y.0 in let x₂ = x.2 in
      dite (dec_le (spans p g n).begun g.lead.cycle)
      (λ z. omega arith)
      (λ z. let ended = dite (ℕ_discrete n p.driver)
      (λ q. let e = begun_lead p g n q in let d = drive_awake g.lead.drive (omega arith) in
      told g ws m n a hm hn follows dep d.0 (subst (λ j. 0 < j) (sym (ap (progress p g).stage q ∙ stage_driver p g)) d.1))
      (λ q. let e = begun_at p g n q in
      told g ws m n a hm hn follows dep
      (λ r. let i = a.resting r n hn q in let f : (g.nodes n).next + phase_begun (g.nodes n).phase ≡ g.lead.cycle + 0 =
      (λ j. i.0 j + phase_begun (i.1 j)) in omega arith)
      (subst (λ j. 0 < j) (sym (stage_at p g n q)) (begun_woken (length (p.targets n)) g.lead.cycle (g.nodes n).next (g.nodes n).phase
      (a.followers n hn q) (omega arith)))) in omega arith)

  pub paces : (g : Whole) (ws : List ℕ) → Wired p → Activations p g ws → Paced (spans p g)
  paces g ws w a = record {
    first = λ n h. let c = (in_cycle g ws a n h).0 in let l = a.later in omega arith;
    begun = λ n h. (in_cycle g ws a n h).1;
    near = λ m n hm hn. let x = (in_cycle g ws a m hm).2 in let y = (in_cycle g ws a n hn).0 in omega arith;
    ordered = λ l k at. by l k at k.delayed refl;
    last = λ n h follows. waits g ws n p.driver a h w.driver_in follows (w.tells_driver n h);
  }
    where
      by : (l : ℕ) (k : ShapeLink) → LinkAt p l k → (b : Bool) → k.delayed ≡ b
          → (spans p g (p.index k.to.node)).begun ≤ (spans p g (p.index k.from.node)).ended + delay_by k
      by l k at true e = let x = (in_cycle g ws a (p.index k.to.node) (w.to_in l k at)).2 in
          let y = (in_cycle g ws a (p.index k.from.node) (w.from_in l k at)).0 in
          let one : delay_by k ≡ 1 = ap (λ b. cond {A = ℕ} b 1 0) e in omega arith
      by l k at false e = let z = waits g ws (p.index k.from.node) (p.index k.to.node) a (w.from_in l k at) (w.to_in l k at)
          (w.from_follows l k at) (w.depends l k at e) in let none : delay_by k ≡ 0 = ap (λ b. cond {A = ℕ} b 1 0) e in omega arith
