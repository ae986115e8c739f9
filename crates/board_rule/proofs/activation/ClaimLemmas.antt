-- A claim finds a node triggered only in its own cycle, whatever the driver does. Elsewhere it
-- changes no word.
use Rattle.std.proofs.Common.{◌≡◌, ◌≢◌, ℕ, suc, ◌+◌, ◌-◌, ◌*◌, ◌<◌, ◌⊎◌, inl, inr, ⊎_elim, true, true≢false, cond, eqb}
use Rattle.std.proofs.Common.{List, [], set, get_or, refl, sym, ap, ◌∙◌, subst, arith, eq-eqb, ne_eqb}
use mathlib.Core.Logic.{dite}
use mathlib.Core.Option.{some}
use native.Mathlib.Decide.{ℕ_discrete, dec_le}
use lib.ListN.{get_elem?}
use lib.Seq.{set-get_or}
use prog.Atomic.{either}
use Rattle.atomic_table.specs.Table.{State, Me, keeps, stepped, Allows}
use Rattle.board_rule.specs.declared.view.Phase.TheVariants.{Idle, Awake}
use Rattle.board_rule.specs.declared.view.DriverPhase.{DriverPhase}
use Rattle.board_rule.specs.declared.view.DriverPhase.TheVariants as drives
use Rattle.board_rule.specs.declared.view.NodeView.{NodeView}
use Rattle.board_rule.specs.declared.view.Trail.{Trail}
use Rattle.board_rule.specs.declared.view.View.{View}
use Rattle.pw_graph.specs.Layout.{status_place}
use Rattle.pw_graph.specs.Words.{awake_word, finished_word, not_triggered_word, triggered_word}
use Rattle.board_rule.specs.Layout.{BoardLayout, nodes, first}
use Rattle.board_rule.specs.activation.Phases.{phase_rest, phase_owing, phase_drawn, is_resetting}
use Rattle.board_rule.specs.View.{Whole, node_of, with_node, view_node, view_trail}
use Rattle.board_rule.specs.activation.ActivationRule.{Words, Resets, progress, old_status}
use Rattle.board_rule.specs.events.EventRule.{node_drawn}
use Rattle.board_rule.specs.BoardRule.{Holds}
use Rattle.board_rule.specs.Steps.{Has}
use Rattle.board_rule.specs.working.Plays.{Leaves}
use Rattle.board_rule.proofs.RunLemmas.{wakes}
use Rattle.board_rule.proofs.start.SeatLemmas.{stay_step}
use Rattle.board_rule.proofs.events.MarkLemmas.{quiet_phase}
use Rattle.board_rule.proofs.buffers.SpanLemmas.{phase_paced}
use Rattle.board_rule.proofs.activation.FollowerLemmas.{rest_at, owing_at, rest_put, owing_put, stage_put, elsewhere, words_run, active_node}
use Rattle.board_rule.proofs.activation.FollowerLemmas.{same_node, holds_node}

module _ (p : BoardLayout) where
  old_cases : (c : ℕ) → (old_status p c ≡ not_triggered_word c) ⊎ (old_status p c ≡ finished_word (c - 1))
  old_cases c = dite (ℕ_discrete c (first p)) (λ e. inl
      (ap (λ b. cond b (not_triggered_word c) (finished_word (c - 1))) (eq-eqb c (first p) e)))
      (λ e. inr (ap (λ b. cond b (not_triggered_word c) (finished_word (c - 1))) (ne_eqb c (first p) e)))

  resting_not : (c i k n x : ℕ) (ws : List ℕ) → Resets p c i k ws → n < nodes p → get_or ws (status_place p.shape n) 0 ≡ triggered_word x
      → ⊥
  resting_not c i k n x ws r h e = dite (dec_le k n)
      (λ l. let o = r.status_old n h l in ⊎_elim (λ (z : old_status p c ≡ not_triggered_word c). let q : get_or ws (status_place p.shape n) 0
      ≡ not_triggered_word c = o ∙ z in omega arith)
      (λ (z : old_status p c ≡ finished_word (c - 1)). let q : get_or ws (status_place p.shape n) 0 ≡ finished_word (c - 1) = o ∙ z in
      omega arith) (old_cases c))
      (λ l. let q = r.status_new n h (omega arith) in omega arith)

  running_is : (g : Whole) (d : DriverPhase) (n x : ℕ) (ws : List ℕ) → (is_resetting d ≡ true → ⊥) → Words p g.lead.cycle (progress p g) d ws
      → n < nodes p → get_or ws (status_place p.shape n) 0 ≡ triggered_word x → (is_resetting d ≡ true → ⊥) × x ≡ g.lead.cycle
  running_is g d n x ws runs_on w h e = let r = words_run p g d ws runs_on w in let o = r.node n h in let k = o.kinds in
      let q = o.status_is in (runs_on, omega arith)

  -- a node that is triggered in x shows that the driver has begun x and not ended it
  pub triggered_is : (g : Whole) (d : DriverPhase) (n x : ℕ) (ws : List ℕ) → Words p g.lead.cycle (progress p g) d ws → n < nodes p
      → get_or ws (status_place p.shape n) 0 ≡ triggered_word x → (is_resetting d ≡ true → ⊥) × x ≡ g.lead.cycle
  triggered_is g drives.Between n x ws w h e = absurd (resting_not g.lead.cycle 0 0 n x ws w h e)
  triggered_is g drives.BeginDrawn n x ws w h e = absurd (resting_not g.lead.cycle 0 0 n x ws w h e)
  triggered_is g (drives.Reset i) n x ws w h e = absurd (resting_not g.lead.cycle i i n x ws w h e)
  triggered_is g (drives.Half i) n x ws w h e = absurd (resting_not g.lead.cycle (suc i) i n x ws w h e)
  triggered_is g (drives.Kick i o) n x ws w h e = running_is g (drives.Kick i o) n x ws (λ z. true≢false (sym z)) w h e
  triggered_is g drives.Waiting n x ws w h e = running_is g drives.Waiting n x ws (λ z. true≢false (sym z)) w h e
  triggered_is g drives.Checking n x ws w h e = running_is g drives.Checking n x ws (λ z. true≢false (sym z)) w h e
  triggered_is g drives.LateStored n x ws w h e = running_is g drives.LateStored n x ws (λ z. true≢false (sym z)) w h e
  triggered_is g drives.Awake n x ws w h e = running_is g drives.Awake n x ws (λ z. true≢false (sym z)) w h e
  triggered_is g drives.StartDrawn n x ws w h e = running_is g drives.StartDrawn n x ws (λ z. true≢false (sym z)) w h e
  triggered_is g drives.Running n x ws w h e = running_is g drives.Running n x ws (λ z. true≢false (sym z)) w h e
  triggered_is g drives.Done n x ws w h e = running_is g drives.Done n x ws (λ z. true≢false (sym z)) w h e
  triggered_is g drives.FinishDrawn n x ws w h e = running_is g drives.FinishDrawn n x ws (λ z. true≢false (sym z)) w h e
  triggered_is g drives.FinishStored n x ws w h e = running_is g drives.FinishStored n x ws (λ z. true≢false (sym z)) w h e
  triggered_is g drives.EndDrawn n x ws w h e = running_is g drives.EndDrawn n x ws (λ z. true≢false (sym z)) w h e

  -- a step that finds a word and leaves it: the seat remembers something
  pub remembers : {S : Type 0} (s : State S View) (r : Holds p s) (id i : ℕ) (me : Me S View) (t : Trail) → get_elem? s.views id ≡ some me.0
      → t.looks ≡ me.0.trail.looks → Holds p (stepped s i (get_or s.words i 0) id me.1 (view_trail me.0 t) keeps)
  remembers s r id i me t at seen = subst (λ (ws : List ℕ). Holds p record
      { words = ws; homes = s.homes; views = set s.views id (view_trail me.0 t) }) (sym (set-get_or s.words i 0)) record {
        whole = r.whole;
        seated = stay_step p r.whole s.words s.words s.views id me.0 t at refl seen r.seated;
        activations = r.activations;
        events = r.events;
        buffers = r.buffers;
      }

  module _ {S : Type 0} where
    pub claim_allowed : (slots id m : ℕ) (me : Me S View) (after : ℕ → View) (t : Trail) (seen : ℕ → Trail) → Has p me.0 m
        → (node_of me.0 m).phase ≡ Idle
        → (after (triggered_word (node_of me.0 m).next) ≡ view_node me.0 m (record (node_of me.0 m) { phase = Awake }) t)
        → ((found : ℕ) → found ≢ triggered_word (node_of me.0 m).next → after found ≡ view_trail me.0 (seen found))
        → ((found : ℕ) → (seen found).looks ≡ me.0.trail.looks)
        → Allows (Holds p) slots id me (status_place p.shape m)
        (λ w. either (eqb w (triggered_word (node_of me.0 m).next)) (awake_word (node_of me.0 m).next) w) (Leaves after me)
    claim_allowed slots id m me after t seen h phase hit miss looks s r _ at fits =
        let g = r.whole in let a = r.activations in let wide = r.seated.wide in
        let x : NodeView = node_of me.0 m in
        let c : ℕ = g.lead.cycle in
        let found : ℕ = get_or s.words (status_place p.shape m) 0 in
        dite (ℕ_discrete found (triggered_word x.next))
        (λ e. let is = triggered_is g g.lead.drive m x.next s.words a.laid h.inside e in
        let cycle = is.1 in
        let same = same_node p s r id m me.0 at h in
        let ts : List ℕ = p.targets m in
        let phase' : (g.nodes m).phase ≡ Idle = ap (λ (y : NodeView). y.phase) same ∙ phase in
        let next' : (g.nodes m).next ≡ c = ap (λ (y : NodeView). y.next) same ∙ cycle in
        let runs = words_run p g g.lead.drive s.words is.0 a.laid in
        let new : NodeView = record x { phase = Awake } in
        let now = eq-eqb (g.nodes m).next c next' in
        let whole : Whole = with_node g m new in
        let rest : (progress p g).rest m ≡ ts = rest_at p g m h.follows ∙ (λ j. phase_rest ts (now j) (phase' j)) in
        let owing : (progress p g).owing m ≡ [] = owing_at p g m h.follows ∙ ap (phase_owing ts) phase' in
        let rest' : (progress p whole).rest m ≡ ts = rest_put p g m new h.follows ∙ ap (λ b. cond b ts []) (eq-eqb x.next c cycle) in
        let owing' : (progress p whole).owing m ≡ [] = owing_put p g m new h.follows in
        let stage' : (progress p whole).stage m ≡ 1 = stage_put p g m new h.follows in
        let woken = wakes p.shape c m (progress p g) (progress p whole) s.words h.inside wide (elsewhere p g m new) (rest' ∙ sym rest)
        (owing' ∙ sym owing) (e ∙ ap (triggered_word) cycle) stage' runs in
        let more : node_drawn x ≡ node_drawn new = ap (λ f. 2 * x.next + phase_drawn f) phase in (
          view_node me.0 m new t,
          keeps,
          tt,
          subst (λ b. Holds p (stepped s (status_place p.shape m) (either b (awake_word x.next) found) id me.1
              (view_node me.0 m new t) keeps)) (sym (eq-eqb found (triggered_word x.next) e))
              (subst (λ k. Holds p (stepped s (status_place p.shape m) (awake_word k) id me.1 (view_node me.0 m new t) keeps))
              (sym cycle) (holds_node p s r id m (status_place p.shape m) (awake_word c) me.0 me.1 new t at h (omega arith)
              (omega arith) (omega arith) (quiet_phase c x Idle Awake phase refl refl refl)
              (phase_paced x Idle new phase refl refl (omega arith))
              (active_node p g s.words (set s.words (status_place p.shape m) (awake_word c)) m new h.follows is.0 cycle woken a))),
          (sym (ap after e ∙ hit), refl),
        ))
        (λ e. (
          view_trail me.0 (seen found),
          keeps,
          tt,
          subst (λ b. Holds p (stepped s (status_place p.shape m) (either b (awake_word x.next) found) id me.1
              (view_trail me.0 (seen found)) keeps)) (sym (ne_eqb found (triggered_word x.next) e))
              (remembers s r id (status_place p.shape m) me (seen found) at (looks found)),
          (sym (miss found e), refl),
        ))
