-- The driver's node waits: a follower that is not idle can go on, or a node is TRIGGERED. The first of the followers that are still idle in
-- the driver's cycle, in an order that rises along links, has nobody left to wait for.
use Rattle.std.proofs.Common.{◌≡◌, ◌≢◌, ℕ, zero, suc, ◌<◌, ◌⊎◌, inl, inr, ⊎_elim, true, false, true≢false, cond, eqb, []}
use Rattle.std.proofs.Common.{refl, sym, ap, ◌∙◌, arith, Option, eq-eqb, ne_eqb}
use mathlib.Core.Logic.{dite}
use native.Mathlib.Decide.{ℕ_discrete, dec_le}
use Rattle.atomic_table.specs.Table.{State}
use Rattle.pw_graph.specs.Words.{triggered_word}
use Rattle.board_rule.specs.declared.view.View.{View}
use Rattle.board_rule.specs.declared.view.NodeView.{NodeView}
use Rattle.board_rule.specs.declared.view.DriverView.{DriverView}
use Rattle.board_rule.specs.declared.view.Phase.{Phase}
use Rattle.board_rule.specs.declared.view.Phase.TheVariants.{Idle, Awake, StartDrawn, Running, Done, FinishDrawn, Telling}
use Rattle.board_rule.specs.declared.view.DriverPhase.TheVariants as drives
use Rattle.board_rule.specs.Sums.{times}
use Rattle.board_rule.specs.Layout.{BoardLayout, nodes}
use Rattle.board_rule.specs.View.{Whole, node_of}
use Rattle.board_rule.specs.BoardRule.{Holds}
use Rattle.board_rule.specs.Steps.{Claims}
use Rattle.board_rule.specs.activation.Phases.{phase_rest, phase_owing, phase_stage, drive_rest, drive_owing, drive_stage, is_resetting}
use Rattle.board_rule.specs.activation.ActivationRule.{NodeOk, progress}
use Rattle.board_rule.proofs.SumLemmas.{total_zero}
use Rattle.board_rule.proofs.RunLemmas.{Sums, sum_left, sum_debts}
use Rattle.board_rule.proofs.activation.FollowerLemmas.{rest_at, owing_at, stage_at, words_run}
use Rattle.board_progress.specs.working.Order.{IsOrdered}
use Rattle.board_progress.specs.NodeAdvances.NodeAdvances.{claims}
use Rattle.board_progress.specs.Progress.{IsStaffed, IsUnfinished, SomeWork}
use Rattle.board_progress.specs.Progress.HasWork.{is_called}
use Rattle.board_progress.proofs.StaffedLemmas.{searched, seat_of, lead_seat, cycles_left}
use Rattle.board_progress.proofs.FollowerAdvancesLemmas.{node_moves, has_node, follower_advances}

pub idle_or : (f : Phase) → (f ≡ Idle) ⊎ (f ≡ Idle → ⊥)
idle_or Idle = inl refl
idle_or Awake = inr (λ e. (cc))
idle_or StartDrawn = inr (λ e. (cc))
idle_or Running = inr (λ e. (cc))
idle_or Done = inr (λ e. (cc))
idle_or FinishDrawn = inr (λ e. (cc))
idle_or (Telling i o) = inr (λ e. (cc))

-- nobody is left, nobody owes it, and it is not yet awake: it is TRIGGERED
pub is_triggered : (c pending status stage left debts : ℕ) → NodeOk c pending status stage left debts → left ≡ 0 → debts ≡ 0 → stage ≡ 0
    → status ≡ triggered_word c
is_triggered c pending status stage left debts o none free asleep = let kinds = o.kinds in let counts = o.counts in let is = o.status_is in
    dite (ℕ_discrete o.kind 1) (λ e. omega arith)
    (λ z. dite (ℕ_discrete o.kind 0) (λ e. absurd (let a = o.owed (omega arith) e in omega arith))
    (λ y. dite (ℕ_discrete o.kind 2) (λ e. absurd (let a = o.awake e in omega arith))
    (λ x. absurd (let a = o.done (omega arith) in omega arith))))

module _ (p : BoardLayout) (s : State (Option ℕ) View) (h : Holds p s) (staff : IsStaffed p s.views) (more : IsUnfinished p s.views)
    (order : IsOrdered p) (waits : h.whole.lead.drive ≡ drives.Waiting) where
  abbrev g : Whole
  g = h.whole

  abbrev c : ℕ
  c = h.whole.lead.cycle

  runs : Sums p.shape c (progress p g) s.words
  runs = words_run p g g.lead.drive s.words (λ e. true≢false (sym e ∙ ap is_resetting waits)) h.activations.laid

  -- the driver's node has nothing left to tell, and owes nobody
  lead_rest : (m : ℕ) → m ≡ p.driver → (progress p g).rest m ≡ []
  lead_rest m e = ap (λ b. cond b (drive_rest (p.targets m) g.lead.drive) (phase_rest (p.targets m) (eqb (g.nodes m).next c) (g.nodes m).phase))
      (eq-eqb m p.driver e) ∙ ap (drive_rest (p.targets m)) waits

  lead_owing : (m : ℕ) → m ≡ p.driver → (progress p g).owing m ≡ []
  lead_owing m e = ap (λ b. cond b (drive_owing (p.targets m) g.lead.drive) (phase_owing (p.targets m) (g.nodes m).phase)) (eq-eqb m p.driver e)
      ∙ ap (drive_owing (p.targets m)) waits

  lead_stage : (progress p g).stage p.driver ≡ 0
  lead_stage = ap (λ b. cond b (drive_stage g.lead.drive) (phase_stage (eqb (g.nodes p.driver).next c) (g.nodes p.driver).phase))
      (eq-eqb p.driver p.driver refl) ∙ ap drive_stage waits

  module _ (idle : (n : ℕ) → n < nodes p → n ≢ p.driver → (g.nodes n).phase ≡ Idle) where
    -- so nobody is owed
    free : (n : ℕ) → sum_debts (nodes p) (progress p g) n ≡ 0
    free n = total_zero (λ m. times n ((progress p g).owing m)) (nodes p) (λ m inside. dite (ℕ_discrete m p.driver)
        (λ e. ap (times n) (lead_owing m e))
        (λ o. ap (times n) (owing_at p g m o ∙ ap (phase_owing (p.targets m)) (idle m inside o))))

    -- m is idle in the driver's cycle, and n waits for it
    abbrev Blocks : ℕ → ℕ → Type 0
    Blocks n m = (m ≢ p.driver) × ((g.nodes m).next ≡ c) × (0 < times n (p.targets m))

    blocks_or : (n m : ℕ) → Blocks n m ⊎ (Blocks n m → ⊥)
    blocks_or n m = dite (ℕ_discrete m p.driver) (λ e. inr (λ b. b.0 e))
        (λ o. dite (ℕ_discrete (g.nodes m).next c)
        (λ e. dite (dec_le 1 (times n (p.targets m))) (λ z. inl (o, e, (omega arith))) (λ z. inr (λ b. z (let a = b.2 in omega arith))))
        (λ e. inr (λ b. e b.1)))

    -- a node that no follower blocks has nobody left
    none_left : (n : ℕ) → ((m : ℕ) → m < nodes p → Blocks n m → ⊥) → sum_left (nodes p) (progress p g) n ≡ 0
    none_left n none = total_zero (λ m. times n ((progress p g).rest m)) (nodes p) (λ m inside. dite (ℕ_discrete m p.driver)
        (λ e. ap (times n) (lead_rest m e))
        (λ o. let is : (progress p g).rest m ≡ cond (eqb (g.nodes m).next c) (p.targets m) [] =
        rest_at p g m o ∙ ap (phase_rest (p.targets m) (eqb (g.nodes m).next c)) (idle m inside o) in
        dite (ℕ_discrete (g.nodes m).next c)
        (λ e. dite (dec_le 1 (times n (p.targets m))) (λ z. absurd (none m inside (o, e, (omega arith))))
        (λ z. ap (times n) (is ∙ ap (λ b. cond b (p.targets m) []) (eq-eqb (g.nodes m).next c e)) ∙ (let y : times n (p.targets m) ≡ 0 = omega arith in y)))
        (λ e. ap (times n) (is ∙ ap (λ b. cond b (p.targets m) []) (ne_eqb (g.nodes m).next c e)))))

    -- it can be claimed
    claim_follower : (n : ℕ) → n < nodes p → n ≢ p.driver → (g.nodes n).next ≡ c → ((m : ℕ) → m < nodes p → Blocks n m → ⊥) → SomeWork p s
    claim_follower n inside follows now none = let o = seat_of p s h staff n inside follows in
        let stage : (progress p g).stage n ≡ 0 = stage_at p g n follows ∙ ap (phase_stage (eqb (g.nodes n).next c)) (idle n inside follows)
        ∙ ap (λ b. cond {A = ℕ} b 0 2) (eq-eqb (g.nodes n).next c now) in
        let status = is_triggered c _ _ _ _ _ (runs.node n inside) (none_left n none) (free n) stage in
        let same : (node_of o.view n).next ≡ c = ap (λ (y : NodeView). y.next) o.same ∙ now in
        let may : Claims false p o.view n = (has_node p s h staff more n o now, ap (λ (y : NodeView). y.phase) o.same ∙ idle n inside follows) in
        let word = status ∙ ap triggered_word (sym same) in
        node_moves p s h staff more o.id o.view _ o.at (claims false n may word refl) (is_called false n may word) (λ t. t)

    -- THE LEAST: of the followers that are idle in the driver's cycle one is blocked by no follower
    least : (k n : ℕ) → order.rank n < k → n < nodes p → n ≢ p.driver → (g.nodes n).next ≡ c → SomeWork p s
    least zero n low inside follows now = absurd (omega arith)
    least (suc k) n low inside follows now = ⊎_elim
        (λ t. let b = t.2 in let up = order.rises t.0 n t.1 inside b.0 follows b.2 in least k t.0 (omega arith) t.1 b.0 b.1)
        (λ none. claim_follower n inside follows now none) (searched (Blocks n) (blocks_or n) (nodes p))

    claim_lead : ((n : ℕ) → n < nodes p → Blocks p.driver n → ⊥) → SomeWork p s
    claim_lead none = let o = lead_seat p s h staff in let inside = h.seated.sound.driver_in in
        let status = is_triggered c _ _ _ _ _ (runs.node p.driver inside) (none_left p.driver none) (free p.driver) lead_stage in
        let same : o.view.lead.cycle ≡ c = ap (λ (x : DriverView). x.cycle) o.same in let low = h.activations.later in
        let high = cycles_left p s h staff more in
        let may : Claims true p o.view p.driver = (((refl, o.number, o.owners), (omega arith, omega arith), inside), ap (λ (x : DriverView). x.drive) o.same ∙ waits) in
        let word = status ∙ ap triggered_word (sym same) in
        node_moves p s h staff more o.id o.view _ o.at (claims true p.driver may word refl) (is_called true p.driver may word) (λ t. t)

    -- a follower that blocks the driver is idle in its cycle, and then the least of them can be claimed
    idle_advances : SomeWork p s
    idle_advances = ⊎_elim
        (λ t. let b = t.2 in least (suc (order.rank t.0)) t.0 (omega arith) t.1 b.0 b.1)
        claim_lead (searched (Blocks p.driver) (blocks_or p.driver) (nodes p))

  module _ (works : (n : ℕ) → n < nodes p → n ≢ p.driver → (g.nodes n).phase ≡ Running → SomeWork p s) where
    abbrev IsBusy : ℕ → Type 0
    IsBusy n = (n ≢ p.driver) × ((g.nodes n).phase ≡ Idle → ⊥)

    busy_or : (n : ℕ) → IsBusy n ⊎ (IsBusy n → ⊥)
    busy_or n = dite (ℕ_discrete n p.driver) (λ e. inr (λ b. b.0 e))
        (λ o. ⊎_elim (λ e. inr (λ b. b.1 e)) (λ e. inl (o, e)) (idle_or (g.nodes n).phase))

    pub waiting_advances : SomeWork p s
    waiting_advances = ⊎_elim
        (λ t. follower_advances p s h staff more works t.0 t.1 t.2.0 (g.nodes t.0).phase refl t.2.1)
        (λ none. idle_advances (λ n inside follows. ⊎_elim (λ e. e) (λ e. absurd (none n inside (follows, e))) (idle_or (g.nodes n).phase)))
        (searched IsBusy busy_or (nodes p))
