-- The steps of a follower at its work: it ends, it draws a ticket, it stores an event.
use Rattle.std.proofs.Common.{◌≡◌, ◌≢◌, ℕ, ◌+◌, ◌*◌, ◌<◌, true, false, cond, eqb, List, [], length, set, refl, sym, ap, ◌∙◌}
use Rattle.std.proofs.Common.{subst, arith, eq-eqb, get_or-set_other}
use mathlib.Core.Logic.{dite}
use mathlib.Core.Option.{some}
use native.Mathlib.Decide.{ℕ_discrete}
use lib.ListN.{get_elem?}
use Rattle.atomic_table.specs.Table.{State, Me, keeps, stepped, Allows}
use Rattle.board_rule.specs.declared.view.Phase.{Phase}
use Rattle.board_rule.specs.declared.view.Phase.TheVariants.{Idle, Awake, StartDrawn, Running, Done, FinishDrawn, Telling}
use Rattle.board_rule.specs.declared.view.NodeView.{NodeView}
use Rattle.board_rule.specs.declared.view.Trail.{Trail}
use Rattle.board_rule.specs.declared.view.View.{View}
use Rattle.pw_graph.specs.Layout.{pending_place, status_place}
use Rattle.pw_graph.specs.Words.{finished_word}
use Rattle.board_rule.specs.Layout.{BoardLayout, nodes}
use Rattle.board_rule.specs.activation.Phases.{phase_rest, phase_owing, phase_stage, PhaseOk, phase_drawn}
use Rattle.board_rule.specs.View.{Whole, node_of, with_node, view_node}
use Rattle.board_rule.specs.activation.ActivationRule.{Activations, progress}
use Rattle.board_rule.specs.events.EventRule.{node_drawn}
use Rattle.board_rule.specs.BoardRule.{Holds}
use Rattle.board_rule.specs.buffers.Spans.{spans, phase_over, phase_begun}
use Rattle.board_rule.specs.Steps.{Has, IsGivenOn}
use Rattle.board_rule.specs.working.Plays.{Leaves}
use Rattle.board_rule.proofs.RunLemmas.{Sums, keeps as stays, finishes}
use Rattle.board_rule.proofs.events.MarkLemmas.{quiet_phase}
use Rattle.board_rule.proofs.activation.FollowerLemmas.{rest_at, owing_at, stage_at, rest_put, owing_put, stage_put, elsewhere, words_run}
use Rattle.board_rule.proofs.activation.FollowerLemmas.{not_resetting, active_node, same_node, holds_node_by}
use Rattle.board_rule.proofs.buffers.SpanLemmas.{node_over, node_begun, wired_in, over_at, begun_at, over_else, over_put, begun_put, early_word}
use Rattle.board_rule.proofs.buffers.HolderLemmas.{is_ready, holder_follows}
use Rattle.board_rule.proofs.buffers.PacedLemmas.{paces}
use Rattle.board_rule.proofs.events.FinishLemmas.{buffers_finish}

-- two phases of a node at its work that mean the same for the activation words
pub record Alike (f h : Phase) : Type 0 where
  pub rest : (ts : List ℕ) → phase_rest ts true h ≡ phase_rest ts true f
  pub owing : (ts : List ℕ) → phase_owing ts h ≡ phase_owing ts f
  pub stage : phase_stage true h ≡ phase_stage true f
  pub now : (n c next : ℕ) → PhaseOk n c next f → next ≡ c
  pub ok : (n c next : ℕ) → 0 < n → next ≡ c → PhaseOk n c next h
  pub busy : f ≡ Idle → ⊥

pub draws_start : Alike Awake StartDrawn
draws_start = record { rest = λ _. refl; owing = λ _. refl; stage = refl; now = λ _ _ _ h. h; ok = λ _ _ _ _ h. h; busy = λ e. (cc) }

pub draws_finish : Alike Done FinishDrawn
draws_finish = record { rest = λ _. refl; owing = λ _. refl; stage = refl; now = λ _ _ _ h. h; ok = λ _ _ _ _ h. h; busy = λ e. (cc) }

pub stores_start : Alike StartDrawn Running
stores_start = record { rest = λ _. refl; owing = λ _. refl; stage = refl; now = λ _ _ _ h. h; ok = λ _ _ _ _ h. h; busy = λ e. (cc) }

pub stores_finish : Alike FinishDrawn (Telling 0 false)
stores_finish = record {
  rest = λ _. refl;
  owing = λ _. refl;
  stage = refl;
  now = λ _ _ _ h. h;
  ok = λ _ _ _ some h. (h, some);
  busy = λ e. (cc);
}

-- a word of another part is no activation word
abbrev pub IsOther : BoardLayout → ℕ → Type 0
IsOther p i = (n : ℕ) → n < nodes p → (pending_place p.shape n ≢ i) × (status_place p.shape n ≢ i)

pub ticket_is_other : (p : BoardLayout) → IsOther p 0
ticket_is_other p n h = ((λ z. omega arith), (λ z. omega arith))

pub later_is_other : (p : BoardLayout) (i : ℕ) → nodes p + nodes p < i → IsOther p i
later_is_other p i l n h = ((λ z. omega arith), (λ z. omega arith))

module _ (p : BoardLayout) {S : Type 0} where
  -- the activation rule after a step of the follower m to a phase that means the same
  pub active_alike : (s : State S View) (r : Holds p s) (id m : ℕ) (v : View) (f h : Phase) (y : NodeView) (i x : ℕ)
      → get_elem? s.views id ≡ some v → Has p v m → Alike f h → (node_of v m).phase ≡ f → y.next ≡ (node_of v m).next → y.phase ≡ h
      → IsOther p i
      → Activations p (with_node r.whole m y) (set s.words i x)
  active_alike s r id m v f h y i x at has like was next is other =
      let g = r.whole in let a = r.activations in let sound = r.seated.sound in
      let same = same_node p s r id m v at has in
      let ts : List ℕ = p.targets m in
      let c : ℕ = g.lead.cycle in
      let was' : (g.nodes m).phase ≡ f = ap (λ (z : NodeView). z.phase) same ∙ was in
      let ok : PhaseOk (length ts) c (g.nodes m).next f =
      subst (λ (k : Phase). PhaseOk (length ts) c (g.nodes m).next k) was' (a.followers m has.inside has.follows) in
      let cycle : (g.nodes m).next ≡ c = like.now (length ts) c (g.nodes m).next ok in
      let next' : y.next ≡ c = next ∙ sym (ap (λ (z : NodeView). z.next) same) ∙ cycle in
      let now = eq-eqb (g.nodes m).next c cycle in let now' = eq-eqb y.next c next' in
      let runs_on = not_resetting p g s.words m a has.inside has.follows (λ e. like.busy (sym was' ∙ e)) in
      let runs = words_run p g g.lead.drive s.words runs_on a.laid in
      let whole : Whole = with_node g m y in
      let ws : List ℕ = set s.words i x in
      let away = elsewhere p g m y in
      let rest : (progress p whole).rest m ≡ (progress p g).rest m = rest_put p g m y has.follows ∙ (λ j. phase_rest ts (now' j) (is j))
      ∙ like.rest ts ∙ sym (rest_at p g m has.follows ∙ (λ j. phase_rest ts (now j) (was' j))) in
      let owing : (progress p whole).owing m ≡ (progress p g).owing m = owing_put p g m y has.follows ∙ ap (phase_owing ts) is ∙ like.owing ts
      ∙ sym (owing_at p g m has.follows ∙ ap (phase_owing ts) was') in
      let stage : (progress p whole).stage m ≡ (progress p g).stage m = stage_put p g m y has.follows ∙ (λ j. phase_stage (now' j) (is j))
      ∙ like.stage ∙ sym (stage_at p g m has.follows ∙ (λ j. phase_stage (now j) (was' j))) in
      let after : Sums p.shape c (progress p whole) ws = stays p.shape c (progress p g) (progress p whole) s.words ws
      (λ k l. dite (ℕ_discrete k m) (λ q. ap (progress p whole).rest q ∙ rest ∙ ap (progress p g).rest (sym q)) (λ q. away.rest k q))
      (λ k l. dite (ℕ_discrete k m) (λ q. ap (progress p whole).owing q ∙ owing ∙ ap (progress p g).owing (sym q)) (λ q. away.owing k q))
      (λ k l. dite (ℕ_discrete k m) (λ q. ap (progress p whole).stage q ∙ stage ∙ ap (progress p g).stage (sym q)) (λ q. away.stage k q))
      (λ n l. get_or-set_other s.words i (pending_place p.shape n) x 0 (other n l).0)
      (λ n l. get_or-set_other s.words i (status_place p.shape n) x 0 (other n l).1) runs in
      active_node p g s.words ws m y has.follows runs_on
      (subst (λ (k : Phase). PhaseOk (length ts) c y.next k) (sym is) (like.ok (length ts) c y.next (sound.tells m has.inside) next'))
      after a

  -- a node that works stores FINISHED
  pub finish_allowed : (slots id m : ℕ) (me : Me S View) (t : Trail) (after : ℕ → View) → Has p me.0 m → (node_of me.0 m).phase ≡ Running
      → IsGivenOn p me.0 m (node_of me.0 m).next → ((found : ℕ)
      → after found ≡ view_node me.0 m (record (node_of me.0 m) { phase = Done }) t)
      → Allows (Holds p) slots id me (status_place p.shape m) (λ _. finished_word (node_of me.0 m).next)
      (λ _. Leaves after me (finished_word (node_of me.0 m).next))
  finish_allowed slots id m me t after h phase given is_after s r _ at fits =
      let g = r.whole in let a = r.activations in let wide = r.seated.wide in
      let x : NodeView = node_of me.0 m in
      let same = same_node p s r id m me.0 at h in
      let ts : List ℕ = p.targets m in
      let c : ℕ = g.lead.cycle in
      let phase' : (g.nodes m).phase ≡ Running = ap (λ (y : NodeView). y.phase) same ∙ phase in
      let ok : PhaseOk (length ts) c (g.nodes m).next Running =
      subst (λ (f : Phase). PhaseOk (length ts) c (g.nodes m).next f) phase' (a.followers m h.inside h.follows) in
      let cycle : x.next ≡ c = sym (ap (λ (y : NodeView). y.next) same) ∙ ok in
      let runs_on = not_resetting p g s.words m a h.inside h.follows (λ e. idle_not (sym e ∙ phase')) in
      let runs = words_run p g g.lead.drive s.words runs_on a.laid in
      let new : NodeView = record x { phase = Done } in
      let now = eq-eqb (g.nodes m).next c ok in
      let whole : Whole = with_node g m new in
      let rest : (progress p g).rest m ≡ ts = rest_at p g m h.follows ∙ (λ j. phase_rest ts (now j) (phase' j)) in
      let owing : (progress p g).owing m ≡ [] = owing_at p g m h.follows ∙ ap (phase_owing ts) phase' in
      let stage : (progress p g).stage m ≡ 1 = stage_at p g m h.follows ∙ ap (phase_stage (eqb (g.nodes m).next c)) phase' in
      let rest' : (progress p whole).rest m ≡ ts = rest_put p g m new h.follows ∙ ap (λ b. cond b ts []) (eq-eqb x.next c cycle) in
      let owing' : (progress p whole).owing m ≡ [] = owing_put p g m new h.follows in
      let stage' : (progress p whole).stage m ≡ 2 = stage_put p g m new h.follows in
      let finished = finishes p.shape c m (progress p g) (progress p whole) s.words h.inside wide (elsewhere p g m new) (rest' ∙ sym rest)
      (owing' ∙ sym owing) stage stage' runs in
      let ws : List ℕ = set s.words (status_place p.shape m) (finished_word c) in
      let w = wired_in p g s.words s.views r.seated in
      let now_begun : node_begun x ≡ x.next + 1 = ap (λ f. x.next + phase_begun f) phase in
      let begun : (spans p g m).begun ≡ x.next + 1 = begun_at p g m h.follows ∙ ap node_begun same ∙ now_begun in
      let ended : (spans p g m).ended ≡ x.next + 0 = over_at p g m h.follows ∙ ap node_over same ∙ ap (λ f. x.next + phase_over f) phase in
      let later : (spans p whole m).ended ≡ x.next + 1 = over_put p g m new h.follows in
      let ready = is_ready p g s.words s.views id me.0 m x.next r.seated at (holder_follows p m h.follows ∙ h.owned) begun given in
      let more : node_drawn x ≡ node_drawn new = ap (λ f. 2 * x.next + phase_drawn f) phase in (
        view_node me.0 m new t,
        keeps,
        tt,
        subst (λ k. Holds p (stepped s (status_place p.shape m) (finished_word k) id me.1 (view_node me.0 m new t) keeps)) (sym cycle)
            (holds_node_by p s r id m (status_place p.shape m) (finished_word c) me.0 me.1 new t at h (omega arith) (omega arith)
            (omega arith) (quiet_phase c x Running Done phase refl refl refl)
            (active_node p g s.words ws m new h.follows runs_on cycle finished a)
            (buffers_finish p (spans p g) (spans p whole) g.ends g.expect s.words ws m w h.inside (paces p g s.words w a) ready
            (omega arith) (omega arith) (λ n l o. over_else p g m n new o) (λ n l. begun_put p g m n x new same (omega arith))
            (early_word p s.words (status_place p.shape m) (finished_word c) (omega arith)) r.buffers)),
        (sym (is_after (finished_word x.next)), refl),
      )
    where
      idle_not : (let a : Phase = Idle in a) ≡ Running → ⊥
      idle_not e = (cc)
