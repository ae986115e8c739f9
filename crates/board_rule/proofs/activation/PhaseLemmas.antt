-- What a follower's phase means after it has signalled a target.
use Rattle.std.proofs.Common.{◌≡◌, ◌≢◌, ℕ, suc, ◌+◌, ◌-◌, ◌*◌, ◌<◌, ◌≤◌, Bool, true, false, true≢false, cond, eqb, List}
use Rattle.std.proofs.Common.{[], ◌∷◌, take, drop, length, get_or, refl, sym, ap, ◌∙◌, arith, eq-eqb, ne_eqb, eqb-true}
use Rattle.std.proofs.lemmas.List.{drop_more, drop_all}
use Rattle.board_rule.specs.declared.view.Phase.{Phase}
use Rattle.board_rule.specs.declared.view.Phase.TheVariants.{Idle, Awake, StartDrawn, Running, Done, FinishDrawn, Telling}
use Rattle.board_rule.specs.declared.view.NodeView.{NodeView}
use Rattle.board_rule.specs.activation.Phases.{owed_of, phase_rest, phase_owing, phase_stage, PhaseOk, phase_drawn}
use Rattle.board_rule.specs.events.EventRule.{node_drawn}
use Rattle.board_rule.specs.events.Marks.{phase_started, phase_finished, phase_holds}
use Rattle.board_rule.specs.Steps.{settled, lowered_of, CanTell, Indebted}
use Rattle.board_rule.proofs.events.MarkLemmas.{QuietNode}

abbrev ended : NodeView → NodeView
ended x = record x { next = x.next + 1; phase = Idle }

abbrev goes_on : NodeView → ℕ → NodeView
goes_on x i = record x { phase = Telling i false }

not_next : (x c : ℕ) → x ≡ c → eqb (x + 1) c ≡ false
not_next x c e = ne_eqb (x + 1) c (λ z. omega arith)

module _ (ts : List ℕ) (c : ℕ) (x : NodeView) (i : ℕ) (now : x.next ≡ c) where
  rest_by : (b : Bool) → (b ≡ true → drop i ts ≡ [])
      → phase_rest ts (eqb (cond b (ended x) (goes_on x i)).next c) (cond b (ended x) (goes_on x i)).phase ≡ drop i ts
  rest_by true h = ap (λ b. cond b ts []) (not_next x.next c now) ∙ sym (h refl)
  rest_by false h = refl

  owing_by : (b : Bool) → phase_owing ts (cond b (ended x) (goes_on x i)).phase ≡ []
  owing_by true = refl
  owing_by false = refl

  stage_by : (b : Bool) → phase_stage (eqb (cond b (ended x) (goes_on x i)).next c) (cond b (ended x) (goes_on x i)).phase ≡ 2
  stage_by true = ap (λ b. cond b 0 2) (not_next x.next c now)
  stage_by false = refl

  drawn_by : (b : Bool) → node_drawn (cond b (ended x) (goes_on x i)) ≡ 2 * x.next + 2
  drawn_by true = omega arith
  drawn_by false = refl

  ok_by : (n : ℕ) (b : Bool) → (b ≡ false → i < n) → PhaseOk n c (cond b (ended x) (goes_on x i)).next (cond b (ended x) (goes_on x i)).phase
  ok_by n true h = (omega arith, omega arith)
  ok_by n false h = (now, h refl)

  pub settled_rest : (n : ℕ) (owes : Bool) → n ≡ length ts
      → phase_rest ts (eqb (settled n x i owes).next c) (settled n x i owes).phase ≡ drop i ts
  settled_rest n true e = refl
  settled_rest n false e = rest_by (eqb i n) (λ t. drop_all i ts (let a = eqb-true i n t in omega arith))

  pub settled_owing : (n : ℕ) (owes : Bool) → phase_owing ts (settled n x i owes).phase ≡ owed_of ts i owes
  settled_owing n true = refl
  settled_owing n false = owing_by (eqb i n)

  pub settled_stage : (n : ℕ) (owes : Bool) → phase_stage (eqb (settled n x i owes).next c) (settled n x i owes).phase ≡ 2
  settled_stage n true = refl
  settled_stage n false = stage_by (eqb i n)

  pub settled_drawn : (n : ℕ) (owes : Bool) → node_drawn (settled n x i owes) ≡ 2 * x.next + 2
  settled_drawn n true = refl
  settled_drawn n false = drawn_by (eqb i n)

  pub settled_ok : (n : ℕ) (owes : Bool) → 0 < i → i ≤ n → PhaseOk n c (settled n x i owes).next (settled n x i owes).phase
  settled_ok n true low high = (now, (low, high))
  settled_ok n false low high = ok_by n (eqb i n) (λ t. let o : i ≢ n = λ e. true≢false (sym (eq-eqb i n e) ∙ t) in omega arith)

module _ (c : ℕ) (x : NodeView) (i j : ℕ) (o : Bool) (now : x.next ≡ c) (was : x.phase ≡ Telling j o) where
  told_one : (b : Bool) → cond {A = ℕ} b 1 1 ≡ 1
  told_one true = refl
  told_one false = refl

  was_started : cond (eqb x.next c) (phase_started x.phase) 1 ≡ 1
  was_started = ap (λ f. cond (eqb x.next c) (phase_started f) 1) was ∙ told_one (eqb x.next c)

  was_finished : cond (eqb x.next c) (phase_finished x.phase) 1 ≡ 1
  was_finished = ap (λ f. cond (eqb x.next c) (phase_finished f) 1) was ∙ told_one (eqb x.next c)

  quiet_goes_on : (owes : Bool) → QuietNode c x (record x { phase = Telling i owes })
  quiet_goes_on owes = record {
    started = told_one (eqb x.next c) ∙ sym was_started;
    finished = told_one (eqb x.next c) ∙ sym was_finished;
    start = refl;
    finish = refl;
    holds = sym (ap (phase_holds x) was);
  }

  quiet_by : (b : Bool) → QuietNode c x (cond b (ended x) (goes_on x i))
  quiet_by true = record {
    started = ap (λ b. cond {A = ℕ} b 0 1) (not_next x.next c now) ∙ sym was_started;
    finished = ap (λ b. cond {A = ℕ} b 0 1) (not_next x.next c now) ∙ sym was_finished;
    start = refl;
    finish = refl;
    holds = sym (ap (phase_holds x) was);
  }
  quiet_by false = quiet_goes_on false

  pub settled_quiet : (n : ℕ) (owes : Bool) → QuietNode c x (settled n x i owes)
  settled_quiet n true = quiet_goes_on true
  settled_quiet n false = quiet_by (eqb i n)

-- the target that is told last
pub owed_is : (ts : List ℕ) (i n : ℕ) → i < length ts → get_or ts i 0 ≡ n → owed_of ts (suc i) true ≡ n ∷ []
owed_is ts i n h e = let k : suc i - 1 ≡ i = omega arith in ap (λ j. take 1 (drop j ts)) k ∙ ap (take 1) (drop_more ts i 0 h)
    ∙ ap (λ x. x ∷ []) e

-- a node that can tell its next target, or owes its last one
pub can_tell : (n : ℕ) (f : Phase) → CanTell n f → (f ≡ Telling (lowered_of f) false) × lowered_of f < n
can_tell n Idle h = absurd h
can_tell n Awake h = absurd h
can_tell n StartDrawn h = absurd h
can_tell n Running h = absurd h
can_tell n Done h = absurd h
can_tell n FinishDrawn h = absurd h
can_tell n (Telling j true) h = absurd h
can_tell n (Telling j false) h = (refl, h)

pub in_debt : (n : ℕ) (f : Phase) → Indebted n f → (f ≡ Telling (suc (lowered_of f - 1)) true) × (suc (lowered_of f - 1) ≡ lowered_of f)
    × (lowered_of f - 1 < n)
in_debt n Idle h = absurd h
in_debt n Awake h = absurd h
in_debt n StartDrawn h = absurd h
in_debt n Running h = absurd h
in_debt n Done h = absurd h
in_debt n FinishDrawn h = absurd h
in_debt n (Telling i false) h = absurd h
in_debt n (Telling i true) h = let a = h.0 in let b = h.1 in let e : suc (i - 1) ≡ i = omega arith in
    (ap (λ k. let f : Phase = Telling k true in f) (sym e), e, omega arith)

-- no node has drawn more than two tickets in its cycle
pub drawn_most : (f : Phase) → phase_drawn f ≤ 2
drawn_most Idle = omega arith
drawn_most Awake = omega arith
drawn_most StartDrawn = omega arith
drawn_most Running = omega arith
drawn_most Done = omega arith
drawn_most FinishDrawn = omega arith
drawn_most (Telling i o) = omega arith
