-- The buffer rule after a step of another part: what the phases say of the cycles that each node has begun and ended, and the words that
-- are not its own.
use Rattle.std.proofs.Common.{◌≡◌, ◌≢◌, ℕ, ◌+◌, ◌<◌, ◌≤◌, ⊎_elim, Bool, true, false, cond, eqb, List, set, refl, sym, ap}
use Rattle.std.proofs.Common.{◌∙◌, arith, eq-eqb, ne_eqb, get_or-set_other}
use mathlib.Core.Logic.{dite}
use native.Mathlib.Decide.{ℕ_discrete}
use Rattle.pw_graph.specs.Layout.{late_place, event_place, event_count}
use Rattle.board_rule.specs.declared.view.Phase.{Phase}
use Rattle.board_rule.specs.declared.view.Phase.TheVariants.{Idle, Telling}
use Rattle.board_rule.specs.declared.view.DriverPhase.{DriverPhase}
use Rattle.board_rule.specs.declared.view.DriverPhase.TheVariants as drives
use Rattle.board_rule.specs.declared.view.NodeView.{NodeView}
use Rattle.board_rule.specs.declared.view.DriverView.{DriverView}
use Rattle.board_rule.specs.declared.view.View.{View}
use Rattle.board_rule.specs.Layout.{BoardLayout, nodes}
use Rattle.board_rule.specs.View.{Whole, put, with_node, with_lead}
use Rattle.board_rule.specs.activation.TellingSteps.{settled, kicked}
use Rattle.board_rule.specs.Steps.{reset_to}
use Rattle.board_rule.specs.buffers.BufferRule.{Buffers}
use Rattle.board_rule.specs.buffers.Spans.{spans, phase_over, phase_begun, drive_over, drive_begun}
use Rattle.board_rule.specs.BoardRule.{Seated}
use Rattle.board_rule.specs.events.EventSteps.{CanDrawLead, lead_draws, CanStoreLead, lead_stores}
use Rattle.board_rule.proofs.start.SeatLemmas.{put_here, put_else}
use Rattle.board_rule.proofs.buffers.WiredLemmas.{Wired, wired}
use Rattle.board_rule.proofs.buffers.BuffersStayLemmas.{SameBuffers, buffers_stay}

-- the cycles that a follower, or the driver's node, has ended and begun
abbrev pub node_over : NodeView → ℕ
node_over x = x.next + phase_over x.phase

abbrev pub node_begun : NodeView → ℕ
node_begun x = x.next + phase_begun x.phase

abbrev pub lead_over : DriverView → ℕ
lead_over x = x.cycle + drive_over x.drive

abbrev pub lead_begun : DriverView → ℕ
lead_begun x = x.cycle + drive_begun x.drive

-- from x to y a node ends no cycle
abbrev pub IsPaced : NodeView → NodeView → Type 0
IsPaced x y = (node_over y ≡ node_over x) × (node_begun x ≤ node_begun y)

abbrev pub IsLeadPaced : DriverView → DriverView → Type 0
IsLeadPaced x y = (lead_over y ≡ lead_over x) × (lead_begun x ≤ lead_begun y)

cond_more : (b : Bool) (a x y : ℕ) → x ≤ y → cond b a x ≤ cond b a y
cond_more true a x y h = omega arith
cond_more false a x y h = h

cond_first : (b : Bool) (a x y : ℕ) → x ≤ y → cond b x a ≤ cond b y a
cond_first true a x y h = h
cond_first false a x y h = omega arith

module _ (p : BoardLayout) where
  pub wired_in : (g : Whole) (ws : List ℕ) (views : List View) → Seated p g ws views → Wired p
  wired_in g ws views s = wired p s.sound s.pooled

  pub over_at : (g : Whole) (n : ℕ) → n ≢ p.driver → (spans p g n).ended ≡ node_over (g.nodes n)
  over_at g n o = ap (λ b. cond b (lead_over g.lead) (node_over (g.nodes n))) (ne_eqb n p.driver o)

  pub begun_at : (g : Whole) (n : ℕ) → n ≢ p.driver → (spans p g n).begun ≡ node_begun (g.nodes n)
  begun_at g n o = ap (λ b. cond b (lead_begun g.lead) (node_begun (g.nodes n))) (ne_eqb n p.driver o)

  pub over_lead : (g : Whole) (n : ℕ) → n ≡ p.driver → (spans p g n).ended ≡ lead_over g.lead
  over_lead g n e = ap (λ b. cond b (lead_over g.lead) (node_over (g.nodes n))) (eq-eqb n p.driver e)

  pub begun_lead : (g : Whole) (n : ℕ) → n ≡ p.driver → (spans p g n).begun ≡ lead_begun g.lead
  begun_lead g n e = ap (λ b. cond b (lead_begun g.lead) (node_begun (g.nodes n))) (eq-eqb n p.driver e)

  -- the words of the other rules are not the buffer rule's
  pub early_word : (ws : List ℕ) (i x : ℕ) → i ≤ nodes p + nodes p → SameBuffers p ws (set ws i x)
  early_word ws i x low j h = get_or-set_other ws i j x 0 (λ e. ⊎_elim (λ z. let a = z.0 in omega arith) (λ z. omega arith) h)

  abbrev pub IsLogWord : ℕ → Type 0
  IsLogWord i = (late_place p.shape 0 ≤ i) × (i < event_place p.shape (event_count p.shape))

  pub log_word : (ws : List ℕ) (i x : ℕ) → IsLogWord i → SameBuffers p ws (set ws i x)
  log_word ws i x log j h = let a = log.0 in let b = log.1 in
      get_or-set_other ws i j x 0 (λ e. ⊎_elim (λ z. let c = z.1 in omega arith) (λ z. omega arith) h)

  -- the follower m goes on from x to y
  pub over_else : (g : Whole) (m n : ℕ) (y : NodeView) → n ≢ m → (spans p (with_node g m y) n).ended ≡ (spans p g n).ended
  over_else g m n y o = ap (λ z. cond (eqb n p.driver) (lead_over g.lead) (node_over z)) (put_else g.nodes m n y o)

  pub over_put : (g : Whole) (m : ℕ) (y : NodeView) → m ≢ p.driver → (spans p (with_node g m y) m).ended ≡ node_over y
  over_put g m y o = over_at (with_node g m y) m o ∙ ap node_over (put_here g.nodes m y)

  pub begun_put : (g : Whole) (m n : ℕ) (x y : NodeView) → g.nodes m ≡ x → node_begun x ≤ node_begun y
      → (spans p g n).begun ≤ (spans p (with_node g m y) n).begun
  begun_put g m n x y is more = cond_more (eqb n p.driver) (lead_begun g.lead) (node_begun (g.nodes n)) (node_begun (put g.nodes m y n))
      (dite (ℕ_discrete n m)
      (λ e. let a : node_begun (g.nodes n) ≡ node_begun x = ap (λ k. node_begun (g.nodes k)) e ∙ ap node_begun is in
      let b : node_begun (put g.nodes m y n) ≡ node_begun y = ap (λ k. node_begun (put g.nodes m y k)) e
      ∙ ap node_begun (put_here g.nodes m y) in omega arith)
      (λ o. let a : node_begun (put g.nodes m y n) ≡ node_begun (g.nodes n) = ap node_begun (put_else g.nodes m n y o) in omega arith))

  pub buffers_node : (g : Whole) (ws after : List ℕ) (m : ℕ) (x y : NodeView) → Wired p → g.nodes m ≡ x → IsPaced x y
      → SameBuffers p ws after → Buffers p (spans p g) g.ends g.expect ws → Buffers p (spans p (with_node g m y)) g.ends g.expect after
  buffers_node g ws after m x y wired is paced same b =
      buffers_stay p (spans p g) (spans p (with_node g m y)) g.ends g.expect ws after wired
      (λ n h. ap (λ k. cond (eqb n p.driver) (lead_over g.lead) k) (dite (ℕ_discrete n m)
      (λ e. ap (λ k. node_over (put g.nodes m y k)) e ∙ ap node_over (put_here g.nodes m y) ∙ paced.0
      ∙ sym (ap (λ k. node_over (g.nodes k)) e ∙ ap node_over is))
      (λ o. ap node_over (put_else g.nodes m n y o))))
      (λ n h. begun_put g m n x y is paced.1) same b

  -- the driver's seat goes on to y
  pub begun_lead_put : (g : Whole) (n : ℕ) (y : DriverView) → lead_begun g.lead ≤ lead_begun y
      → (spans p g n).begun ≤ (spans p (with_lead g y) n).begun
  begun_lead_put g n y more = cond_first (eqb n p.driver) (node_begun (g.nodes n)) (lead_begun g.lead) (lead_begun y) more

  pub buffers_lead : (g : Whole) (ws after : List ℕ) (y : DriverView) → Wired p → IsLeadPaced g.lead y → SameBuffers p ws after
      → Buffers p (spans p g) g.ends g.expect ws → Buffers p (spans p (with_lead g y)) g.ends g.expect after
  buffers_lead g ws after y wired paced same b = buffers_stay p (spans p g) (spans p (with_lead g y)) g.ends g.expect ws after wired
      (λ n h. ap (λ k. cond (eqb n p.driver) k (node_over (g.nodes n))) paced.0)
      (λ n h. begun_lead_put g n y paced.1) same b

-- a node that tells its targets
told_by : (x : NodeView) (i : ℕ) (b : Bool) → (let y : NodeView =
    cond b (record x { next = x.next + 1; phase = Idle }) (record x { phase = Telling i false }) in node_over y ≡ x.next + 1
    × node_begun y ≡ x.next + 1)
told_by x i true = (omega arith, omega arith)
told_by x i false = (refl, refl)

pub settled_paced : (n i j : ℕ) (o owes : Bool) (x : NodeView) → x.phase ≡ Telling j o → IsPaced x (settled n x i owes)
settled_paced n i j o owes x is = let a : node_over x ≡ x.next + 1 = ap (λ f. x.next + phase_over f) is in
    let b : node_begun x ≡ x.next + 1 = ap (λ f. x.next + phase_begun f) is in by owes (omega arith) (omega arith)
  where
    by : (b : Bool) → node_over x ≡ x.next + 1 → node_begun x ≡ x.next + 1 → IsPaced x (settled n x i b)
    by true a b = (sym a, omega arith)
    by false a b = let z = told_by x i (eqb i n) in let z₀ = z.0 in let z₁ = z.1 in (z₀ ∙ sym a, omega arith)

-- a follower from the phase f to the phase h
pub phase_paced : (x : NodeView) (f : Phase) (y : NodeView) → x.phase ≡ f → y.next ≡ x.next → phase_over y.phase ≡ phase_over f
    → phase_begun f ≤ phase_begun y.phase → IsPaced x y
phase_paced x f y is next ended begun = let a : phase_over x.phase ≡ phase_over f = ap phase_over is in
    let b : phase_begun x.phase ≡ phase_begun f = ap phase_begun is in (omega arith, omega arith)

-- the driver's seat from the phase d to the phase of y
pub drive_paced : (x : DriverView) (d : DriverPhase) (y : DriverView) → x.drive ≡ d → y.cycle ≡ x.cycle → drive_over y.drive ≡ drive_over d
    → drive_begun d ≤ drive_begun y.drive → IsLeadPaced x y
drive_paced x d y is cycle ended begun = let a : drive_over x.drive ≡ drive_over d = ap drive_over is in
    let b : drive_begun x.drive ≡ drive_begun d = ap drive_begun is in (omega arith, omega arith)

kicked_by : (i : ℕ) (b : Bool) → (drive_over (cond b drives.Waiting (drives.Kick i false)) ≡ 0)
    × (drive_begun (cond b drives.Waiting (drives.Kick i false)) ≡ 0)
kicked_by i true = (refl, refl)
kicked_by i false = (refl, refl)

pub kicked_paced : (n i : ℕ) (owes : Bool) → (drive_over (kicked n i owes) ≡ 0) × (drive_begun (kicked n i owes) ≡ 0)
kicked_paced n i true = (refl, refl)
kicked_paced n i false = kicked_by i (eqb i n)

reset_by : (i : ℕ) (b : Bool) → (drive_over (cond b (drives.Kick 0 false) (drives.Reset i)) ≡ 0)
    × (drive_begun (cond b (drives.Kick 0 false) (drives.Reset i)) ≡ 0)
reset_by i true = (refl, refl)
reset_by i false = (refl, refl)

pub reset_paced : (n i : ℕ) → (drive_over (reset_to n i) ≡ 0) × (drive_begun (reset_to n i) ≡ 0)
reset_paced n i = reset_by i (eqb i n)

-- drawing a ticket and storing an event
pub draws_paced : (l : DriverView) (d : DriverPhase) (k : ℕ) → l.drive ≡ d → CanDrawLead l.checked d → IsLeadPaced l (lead_draws l k d)
draws_paced l drives.Between k e can = drive_paced l drives.Between (lead_draws l k drives.Between) e refl refl (omega arith)
draws_paced l drives.BeginDrawn k e can = absurd can
draws_paced l (drives.Reset i) k e can = absurd can
draws_paced l (drives.Half i) k e can = absurd can
draws_paced l (drives.Kick i o) k e can = absurd can
draws_paced l drives.Waiting k e can = drive_paced l drives.Waiting (lead_draws l k drives.Waiting) e refl refl (omega arith)
draws_paced l drives.Checking k e can = absurd can
draws_paced l drives.LateStored k e can = absurd can
draws_paced l drives.Awake k e can = drive_paced l drives.Awake (lead_draws l k drives.Awake) e refl refl (omega arith)
draws_paced l drives.StartDrawn k e can = absurd can
draws_paced l drives.Running k e can = absurd can
draws_paced l drives.Done k e can = drive_paced l drives.Done (lead_draws l k drives.Done) e refl refl (omega arith)
draws_paced l drives.FinishDrawn k e can = absurd can
draws_paced l drives.FinishStored k e can = drive_paced l drives.FinishStored (lead_draws l k drives.FinishStored) e refl refl (omega arith)
draws_paced l drives.EndDrawn k e can = absurd can

pub stores_paced : (l : DriverView) (d : DriverPhase) → l.drive ≡ d → CanStoreLead d → IsLeadPaced l (lead_stores l d)
stores_paced l drives.Between e can = absurd can
stores_paced l drives.BeginDrawn e can = drive_paced l drives.BeginDrawn (lead_stores l drives.BeginDrawn) e refl refl (omega arith)
stores_paced l (drives.Reset i) e can = absurd can
stores_paced l (drives.Half i) e can = absurd can
stores_paced l (drives.Kick i o) e can = absurd can
stores_paced l drives.Waiting e can = absurd can
stores_paced l drives.Checking e can = absurd can
stores_paced l drives.LateStored e can = drive_paced l drives.LateStored (lead_stores l drives.LateStored) e refl refl (omega arith)
stores_paced l drives.Awake e can = absurd can
stores_paced l drives.StartDrawn e can = drive_paced l drives.StartDrawn (lead_stores l drives.StartDrawn) e refl refl (omega arith)
stores_paced l drives.Running e can = absurd can
stores_paced l drives.Done e can = absurd can
stores_paced l drives.FinishDrawn e can = drive_paced l drives.FinishDrawn (lead_stores l drives.FinishDrawn) e refl refl (omega arith)
stores_paced l drives.FinishStored e can = absurd can
stores_paced l drives.EndDrawn e can = let a : drive_over l.drive ≡ 1 = ap drive_over e in
    let b : drive_begun l.drive ≡ 1 = ap drive_begun e in (omega arith, omega arith)
