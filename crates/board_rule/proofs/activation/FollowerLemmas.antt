-- What a step of a follower has to show, and its steps after its end: it lowers a target, or triggers one.
use Rattle.std.proofs.Common.{◌≡◌, ◌≢◌, ℕ, suc, ◌+◌, ◌-◌, ◌*◌, ◌%◌, ◌^◌, ◌<◌, ◌≤◌, true, false, cond, eqb, List, []}
use Rattle.std.proofs.Common.{◌∷◌, drop, length, set, get_or, refl, sym, ap, ◌∙◌, subst, arith, eq-eqb, ne_eqb, length-set}
use mathlib.Core.Logic.{dite}
use mathlib.Core.Option.{some, some-injective}
use native.Mathlib.Decide.{ℕ_discrete}
use lib.ListN.{get_elem?}
use Rattle.std.proofs.lemmas.List.{drop_more}
use Rattle.atomic_table.specs.Table.{State, Me, keeps, stepped, Allows}
use Rattle.board_rule.specs.declared.view.Phase.{Phase}
use Rattle.board_rule.specs.declared.view.Phase.TheVariants.{Idle, Telling}
use Rattle.board_rule.specs.declared.view.DriverPhase.{DriverPhase}
use Rattle.board_rule.specs.declared.view.DriverPhase.TheVariants as drives
use Rattle.board_rule.specs.declared.view.NodeView.{NodeView}
use Rattle.board_rule.specs.declared.view.Trail.{Trail}
use Rattle.board_rule.specs.declared.view.View.{View}
use Rattle.pw_graph.specs.Layout.{pending_place, status_place}
use Rattle.pw_graph.specs.Words.{triggered_word}
use Rattle.board_rule.specs.Layout.{BoardLayout, nodes}
use Rattle.board_rule.specs.activation.Phases.{owed_of, phase_rest, phase_owing, phase_stage, PhaseOk, phase_drawn, drive_rest, drive_owing}
use Rattle.board_rule.specs.activation.Phases.{drive_stage, is_resetting}
use Rattle.board_rule.specs.View.{Whole, put, node_of, with_node, view_node}
use Rattle.board_rule.specs.activation.ActivationRule.{Activations, Words, progress}
use Rattle.board_rule.specs.events.EventRule.{node_drawn}
use Rattle.board_rule.specs.buffers.BufferRule.{Buffers}
use Rattle.board_rule.specs.buffers.Spans.{spans}
use Rattle.board_rule.specs.BoardRule.{Holds}
use Rattle.board_rule.specs.Steps.{Has, settled}
use Rattle.board_rule.specs.working.Plays.{Leaves, Learns}
use Rattle.board_rule.proofs.RunLemmas.{Sums, Elsewhere, positive, lowers, triggers}
use Rattle.board_rule.proofs.activation.LeftLemmas.{to_sums, from_sums}
use Rattle.board_rule.proofs.activation.PhaseLemmas.{settled_rest, settled_owing, settled_stage, settled_ok, settled_drawn, settled_quiet, owed_is}
use Rattle.board_rule.proofs.events.MarkLemmas.{QuietNode}
use Rattle.board_rule.proofs.events.TicketLemmas.{events_node}
use Rattle.board_rule.proofs.start.SeatLemmas.{put_here, put_else, node_step}
use Rattle.board_rule.proofs.buffers.SpanLemmas.{IsPaced, settled_paced, buffers_node, wired_in, early_word}

module _ (p : BoardLayout) where
  -- what the progress is at a follower
  pub rest_at : (g : Whole) (m : ℕ) → m ≢ p.driver → (progress p g).rest m
      ≡ phase_rest (p.targets m) (eqb (g.nodes m).next g.lead.cycle) (g.nodes m).phase
  rest_at g m o = ap (λ b. cond b (drive_rest (p.targets m) g.lead.drive)
      (phase_rest (p.targets m) (eqb (g.nodes m).next g.lead.cycle) (g.nodes m).phase)) (ne_eqb m p.driver o)

  pub owing_at : (g : Whole) (m : ℕ) → m ≢ p.driver → (progress p g).owing m ≡ phase_owing (p.targets m) (g.nodes m).phase
  owing_at g m o = ap (λ b. cond b (drive_owing (p.targets m) g.lead.drive) (phase_owing (p.targets m) (g.nodes m).phase))
      (ne_eqb m p.driver o)

  pub stage_at : (g : Whole) (m : ℕ) → m ≢ p.driver
      → (progress p g).stage m ≡ phase_stage (eqb (g.nodes m).next g.lead.cycle) (g.nodes m).phase
  stage_at g m o = ap (λ b. cond b (drive_stage g.lead.drive) (phase_stage (eqb (g.nodes m).next g.lead.cycle) (g.nodes m).phase))
      (ne_eqb m p.driver o)

  -- the same after a step that puts x there
  pub rest_put : (g : Whole) (m : ℕ) (x : NodeView) → m ≢ p.driver
      → (progress p (with_node g m x)).rest m ≡ phase_rest (p.targets m) (eqb x.next g.lead.cycle) x.phase
  rest_put g m x o = rest_at (with_node g m x) m o ∙ ap (λ (y : NodeView). phase_rest (p.targets m) (eqb y.next g.lead.cycle) y.phase)
      (put_here g.nodes m x)

  pub owing_put : (g : Whole) (m : ℕ) (x : NodeView) → m ≢ p.driver
      → (progress p (with_node g m x)).owing m ≡ phase_owing (p.targets m) x.phase
  owing_put g m x o = owing_at (with_node g m x) m o ∙ ap (λ (y : NodeView). phase_owing (p.targets m) y.phase) (put_here g.nodes m x)

  pub stage_put : (g : Whole) (m : ℕ) (x : NodeView) → m ≢ p.driver
      → (progress p (with_node g m x)).stage m ≡ phase_stage (eqb x.next g.lead.cycle) x.phase
  stage_put g m x o = stage_at (with_node g m x) m o
      ∙ ap (λ (y : NodeView). phase_stage (eqb y.next g.lead.cycle) y.phase) (put_here g.nodes m x)

  pub elsewhere : (g : Whole) (m : ℕ) (x : NodeView) → Elsewhere m (progress p g) (progress p (with_node g m x))
  elsewhere g m x = record {
    rest = λ i o. ap (λ (y : NodeView). cond (eqb i p.driver) (drive_rest (p.targets i) g.lead.drive)
        (phase_rest (p.targets i) (eqb y.next g.lead.cycle) y.phase)) (put_else g.nodes m i x o);
    owing = λ i o. ap (λ (y : NodeView). cond (eqb i p.driver) (drive_owing (p.targets i) g.lead.drive) (phase_owing (p.targets i) y.phase))
        (put_else g.nodes m i x o);
    stage = λ i o. ap (λ (y : NodeView). cond (eqb i p.driver) (drive_stage g.lead.drive) (phase_stage (eqb y.next g.lead.cycle) y.phase))
        (put_else g.nodes m i x o);
  }

  -- the words outside the reset
  pub words_run : (g : Whole) (d : DriverPhase) (ws : List ℕ) → (is_resetting d ≡ true → ⊥) → Words p g.lead.cycle (progress p g) d ws
      → Sums p.shape g.lead.cycle (progress p g) ws
  words_run g drives.Between ws runs_on w = absurd (runs_on refl)
  words_run g drives.BeginDrawn ws runs_on w = absurd (runs_on refl)
  words_run g (drives.Reset i) ws runs_on w = absurd (runs_on refl)
  words_run g (drives.Half i) ws runs_on w = absurd (runs_on refl)
  words_run g (drives.Kick i o) ws runs_on w = to_sums p g g.lead.cycle ws w
  words_run g drives.Waiting ws runs_on w = to_sums p g g.lead.cycle ws w
  words_run g drives.Checking ws runs_on w = to_sums p g g.lead.cycle ws w
  words_run g drives.LateStored ws runs_on w = to_sums p g g.lead.cycle ws w
  words_run g drives.Awake ws runs_on w = to_sums p g g.lead.cycle ws w
  words_run g drives.StartDrawn ws runs_on w = to_sums p g g.lead.cycle ws w
  words_run g drives.Running ws runs_on w = to_sums p g g.lead.cycle ws w
  words_run g drives.Done ws runs_on w = to_sums p g g.lead.cycle ws w
  words_run g drives.FinishDrawn ws runs_on w = to_sums p g g.lead.cycle ws w
  words_run g drives.FinishStored ws runs_on w = to_sums p g g.lead.cycle ws w
  words_run g drives.EndDrawn ws runs_on w = to_sums p g g.lead.cycle ws w

  pub run_words : (g : Whole) (d : DriverPhase) (ws : List ℕ) → (is_resetting d ≡ true → ⊥) → Sums p.shape g.lead.cycle (progress p g) ws
      → Words p g.lead.cycle (progress p g) d ws
  run_words g drives.Between ws runs_on w = absurd (runs_on refl)
  run_words g drives.BeginDrawn ws runs_on w = absurd (runs_on refl)
  run_words g (drives.Reset i) ws runs_on w = absurd (runs_on refl)
  run_words g (drives.Half i) ws runs_on w = absurd (runs_on refl)
  run_words g (drives.Kick i o) ws runs_on w = from_sums p g g.lead.cycle ws w
  run_words g drives.Waiting ws runs_on w = from_sums p g g.lead.cycle ws w
  run_words g drives.Checking ws runs_on w = from_sums p g g.lead.cycle ws w
  run_words g drives.LateStored ws runs_on w = from_sums p g g.lead.cycle ws w
  run_words g drives.Awake ws runs_on w = from_sums p g g.lead.cycle ws w
  run_words g drives.StartDrawn ws runs_on w = from_sums p g g.lead.cycle ws w
  run_words g drives.Running ws runs_on w = from_sums p g g.lead.cycle ws w
  run_words g drives.Done ws runs_on w = from_sums p g g.lead.cycle ws w
  run_words g drives.FinishDrawn ws runs_on w = from_sums p g g.lead.cycle ws w
  run_words g drives.FinishStored ws runs_on w = from_sums p g g.lead.cycle ws w
  run_words g drives.EndDrawn ws runs_on w = from_sums p g g.lead.cycle ws w

  -- a follower that is not idle shows that the reset is over
  pub not_resetting : (g : Whole) (ws : List ℕ) (m : ℕ) → Activations p g ws → m < nodes p → m ≢ p.driver → ((g.nodes m).phase ≡ Idle → ⊥)
      → is_resetting g.lead.drive ≡ true → ⊥
  not_resetting g ws m a inside follows busy r = busy (a.resting r m inside follows).1

  -- the activation rule after a step of the follower m
  pub active_node : (g : Whole) (ws after : List ℕ) (m : ℕ) (x : NodeView) → m ≢ p.driver → (is_resetting g.lead.drive ≡ true → ⊥)
      → PhaseOk (length (p.targets m)) g.lead.cycle x.next x.phase → Sums p.shape g.lead.cycle (progress p (with_node g m x)) after
      → Activations p g ws → Activations p (with_node g m x) after
  active_node g ws after m x follows runs_on ok r a = record {
    later = a.later;
    early = a.early;
    within = a.within;
    drive = a.drive;
    followers = λ n h o. dite (ℕ_discrete n m)
        (λ q. subst (λ i. PhaseOk (length (p.targets i)) g.lead.cycle (put g.nodes m x i).next (put g.nodes m x i).phase) (sym q)
        (subst (λ (y : NodeView). PhaseOk (length (p.targets m)) g.lead.cycle y.next y.phase) (sym (put_here g.nodes m x)) ok))
        (λ q. subst (λ (y : NodeView). PhaseOk (length (p.targets n)) g.lead.cycle y.next y.phase) (sym (put_else g.nodes m n x q))
        (a.followers n h o));
    resting = λ z. absurd (runs_on z);
    laid = run_words (with_node g m x) g.lead.drive after runs_on r;
  }

  module _ {S : Type 0} where
    pub same_node : (s : State S View) (r : Holds p s) (id m : ℕ) (v : View) → get_elem? s.views id ≡ some v → Has p v m
        → r.whole.nodes m ≡ node_of v m
    same_node s r id m v at h = some-injective _ _ (sym ((r.seated.knows id v at).owns m h.inside h.follows h.owned) ∙ h.knows)

    -- a step of the follower m to the phase y, on the word i: what each part of the rule has to show
    pub holds_node_by : (s : State S View) (r : Holds p s) (id m i n : ℕ) (v : View) (carry : List (ℕ × S)) (y : NodeView) (t : Trail)
        → get_elem? s.views id ≡ some v → Has p v m → 0 < i → i ≤ nodes p + nodes p
        → node_drawn (node_of v m) ≤ node_drawn y → QuietNode r.whole.lead.cycle (node_of v m) y
        → Activations p (with_node r.whole m y) (set s.words i n)
        → Buffers p (spans p (with_node r.whole m y)) r.whole.ends r.whole.expect (set s.words i n)
        → Holds p (stepped s i n id carry (view_node v m y t) keeps)
    holds_node_by s r id m i n v carry y t at h low high more quiet active buffers = record {
      whole = with_node r.whole m y;
      seated = node_step p r.whole s.words (set s.words i n) s.views id m v y t at
          (length-set s.words i n) h.loops h.inside h.follows h.owned r.seated;
      activations = active;
      events = events_node p r.whole s.words i n m (node_of v m) y h.inside h.follows
          (same_node s r id m v at h) more quiet low high r.events;
      buffers = buffers;
    }

    -- and where it ends no cycle
    pub holds_node : (s : State S View) (r : Holds p s) (id m i n : ℕ) (v : View) (carry : List (ℕ × S)) (y : NodeView) (t : Trail)
        → get_elem? s.views id ≡ some v → Has p v m → 0 < i → i ≤ nodes p + nodes p
        → node_drawn (node_of v m) ≤ node_drawn y → QuietNode r.whole.lead.cycle (node_of v m) y → IsPaced (node_of v m) y
        → Activations p (with_node r.whole m y) (set s.words i n) → Holds p (stepped s i n id carry (view_node v m y t) keeps)
    holds_node s r id m i n v carry y t at h low high more quiet paced active =
        holds_node_by s r id m i n v carry y t at h low high more quiet active
        (buffers_node p r.whole s.words (set s.words i n) m (node_of v m) y (wired_in p r.whole s.words s.views r.seated)
        (same_node s r id m v at h) paced (early_word p s.words i n high) r.buffers)

    pub lower_allowed : (slots id m i n : ℕ) (me : Me S View) (t : ℕ → Trail) (after : ℕ → View) (says : ℕ → Type 0) → Has p me.0 m
        → (node_of me.0 m).phase ≡ Telling i false → i < length (p.targets m) → get_or (p.targets m) i 0 ≡ n
        → ((found : ℕ) → after found ≡ view_node me.0 m (settled (length (p.targets m)) (node_of me.0 m) (i + 1) (eqb found 1)) (t found))
        → ((found : ℕ) → 0 < found → says found)
        → Allows (Holds p) slots id me (pending_place p.shape n) (λ w. (w + (2 ^ 64 - 1)) % 2 ^ 64) (Learns after says me)
    lower_allowed slots id m i n me t after says h phase near target is_after it s r _ at fits =
        let g = r.whole in let a = r.activations in let sound = r.seated.sound in let wide = r.seated.wide in
        let x : NodeView = node_of me.0 m in
        let same = same_node s r id m me.0 at h in
        let ts : List ℕ = p.targets m in
        let c : ℕ = g.lead.cycle in
        let phase' : (g.nodes m).phase ≡ Telling i false = ap (λ (y : NodeView). y.phase) same ∙ phase in
        let ok : PhaseOk (length ts) c (g.nodes m).next (Telling i false) =
        subst (λ (f : Phase). PhaseOk (length ts) c (g.nodes m).next f) phase' (a.followers m h.inside h.follows) in
        let now : x.next ≡ c = sym (ap (λ (y : NodeView). y.next) same) ∙ ok.0 in
        let runs_on = not_resetting g s.words m a h.inside h.follows (λ e. idle_not (sym e ∙ phase')) in
        let runs = words_run g g.lead.drive s.words runs_on a.laid in
        let found : ℕ = get_or s.words (pending_place p.shape n) 0 in
        let one : i + 1 ≡ suc i = omega arith in
        let new : NodeView = settled (length ts) x (suc i) (eqb found 1) in
        let inside : n < nodes p = subst (λ k. k < nodes p) target (sound.targets_in m i h.inside near) in
        let next : drop i ts ≡ n ∷ drop (suc i) ts = drop_more ts i 0 near ∙ (λ j. target j ∷ drop (one j) ts) in
        let rest : (progress p g).rest m ≡ drop i ts = rest_at g m h.follows ∙ ap (phase_rest ts (eqb (g.nodes m).next c)) phase' in
        let owing : (progress p g).owing m ≡ [] = owing_at g m h.follows ∙ ap (phase_owing ts) phase' in
        let stage : (progress p g).stage m ≡ 2 = stage_at g m h.follows ∙ ap (phase_stage (eqb (g.nodes m).next c)) phase' in
        let above = positive p.shape m n (progress p g) (drop (suc i) ts) h.inside (rest ∙ next) in
        let counts = (runs.node n inside).counts in
        let whole : Whole = with_node g m new in
        let rest' : (progress p whole).rest m ≡ drop (suc i) ts = rest_put g m new h.follows
        ∙ settled_rest ts c x (suc i) now (length ts) (eqb found 1) refl in
        let owing' : (progress p whole).owing m ≡ owed_of ts (suc i) (eqb found 1) = owing_put g m new h.follows
        ∙ settled_owing ts c x (suc i) now (length ts) (eqb found 1) in
        let stage' : (progress p whole).stage m ≡ 2 = stage_put g m new h.follows
        ∙ settled_stage ts c x (suc i) now (length ts) (eqb found 1) in
        let lowered = lowers p.shape c m n (found - 1) (progress p g) (progress p whole) s.words h.inside inside wide (elsewhere g m new)
        (stage' ∙ sym stage) (rest ∙ next ∙ ap (λ l. n ∷ l) (sym rest')) owing
        (λ e. owing' ∙ ap (owed_of ts (suc i)) (eq-eqb found 1 e) ∙ owed_is ts i n near target)
        (λ e. owing' ∙ ap (owed_of ts (suc i)) (ne_eqb found 1 e)) (omega arith) runs in
        let word : (found + (2 ^ 64 - 1)) % 2 ^ 64 ≡ found - 1 = omega arith in
        let drawn = settled_drawn ts c x (suc i) now (length ts) (eqb found 1) in
        let before : node_drawn x ≡ 2 * x.next + 2 = ap (λ f. 2 * x.next + phase_drawn f) phase in (
          view_node me.0 m (settled (length ts) x (i + 1) (eqb found 1)) (t found),
          keeps,
          tt,
          subst (λ (k : ℕ × ℕ). Holds p (stepped s (pending_place p.shape n) k.0 id me.1
              (view_node me.0 m (settled (length ts) x k.1 (eqb found 1)) (t found)) keeps)) (λ j. (sym word j, sym one j))
              (holds_node s r id m (pending_place p.shape n) (found - 1) me.0 me.1 new (t found) at h (omega arith) (omega arith)
              (omega arith) (settled_quiet c x (suc i) i false now phase (length ts) (eqb found 1))
              (settled_paced (length ts) (suc i) i false (eqb found 1) x phase)
              (active_node g s.words (set s.words (pending_place p.shape n) (found - 1)) m new h.follows runs_on
              (settled_ok ts c x (suc i) now (length ts) (eqb found 1) (omega arith) (omega arith)) lowered a)),
          (sym (is_after found), refl, it found (omega arith)),
        )
      where
        idle_not : (let a : Phase = Idle in a) ≡ Telling i false → ⊥
        idle_not e = (cc)

    -- the target that is owed is triggered
    pub trigger_allowed : (slots id m i n : ℕ) (me : Me S View) (t : Trail) (after : ℕ → View) → Has p me.0 m
        → (node_of me.0 m).phase ≡ Telling (suc i) true → get_or (p.targets m) i 0 ≡ n
        → ((found : ℕ) → after found ≡ view_node me.0 m (settled (length (p.targets m)) (node_of me.0 m) (suc i) false) t)
        → Allows (Holds p) slots id me (status_place p.shape n) (λ _. triggered_word (node_of me.0 m).next)
        (λ _. Leaves after me (triggered_word (node_of me.0 m).next))
    trigger_allowed slots id m i n me t after h phase target is_after s r _ at fits =
        let g = r.whole in let a = r.activations in let sound = r.seated.sound in let wide = r.seated.wide in
        let x : NodeView = node_of me.0 m in
        let same = same_node s r id m me.0 at h in
        let ts : List ℕ = p.targets m in
        let c : ℕ = g.lead.cycle in
        let phase' : (g.nodes m).phase ≡ Telling (suc i) true = ap (λ (y : NodeView). y.phase) same ∙ phase in
        let ok : PhaseOk (length ts) c (g.nodes m).next (Telling (suc i) true) =
        subst (λ (f : Phase). PhaseOk (length ts) c (g.nodes m).next f) phase' (a.followers m h.inside h.follows) in
        let now : x.next ≡ c = sym (ap (λ (y : NodeView). y.next) same) ∙ ok.0 in let near = ok.1.1 in
        let runs_on = not_resetting g s.words m a h.inside h.follows (λ e. idle_not (sym e ∙ phase')) in
        let runs = words_run g g.lead.drive s.words runs_on a.laid in
        let new : NodeView = settled (length ts) x (suc i) false in
        let inside : n < nodes p = subst (λ k. k < nodes p) target (sound.targets_in m i h.inside (omega arith)) in
        let rest : (progress p g).rest m ≡ drop (suc i) ts = rest_at g m h.follows ∙ ap (phase_rest ts (eqb (g.nodes m).next c)) phase' in
        let owing : (progress p g).owing m ≡ n ∷ [] = owing_at g m h.follows ∙ ap (phase_owing ts) phase'
        ∙ owed_is ts i n (omega arith) target in
        let stage : (progress p g).stage m ≡ 2 = stage_at g m h.follows ∙ ap (phase_stage (eqb (g.nodes m).next c)) phase' in
        let whole : Whole = with_node g m new in
        let rest' : (progress p whole).rest m ≡ drop (suc i) ts = rest_put g m new h.follows
        ∙ settled_rest ts c x (suc i) now (length ts) false refl in
        let owing' : (progress p whole).owing m ≡ [] = owing_put g m new h.follows ∙ settled_owing ts c x (suc i) now (length ts) false in
        let stage' : (progress p whole).stage m ≡ 2 = stage_put g m new h.follows ∙ settled_stage ts c x (suc i) now (length ts) false in
        let triggered = triggers p.shape c m n (progress p g) (progress p whole) s.words h.inside inside wide (elsewhere g m new)
        (stage' ∙ sym stage) (rest' ∙ sym rest) owing owing' runs in
        let drawn = settled_drawn ts c x (suc i) now (length ts) false in
        let before : node_drawn x ≡ 2 * x.next + 2 = ap (λ f. 2 * x.next + phase_drawn f) phase in (
          view_node me.0 m new t,
          keeps,
          tt,
          subst (λ k. Holds p (stepped s (status_place p.shape n) (triggered_word k) id me.1 (view_node me.0 m new t) keeps)) (sym now)
              (holds_node s r id m (status_place p.shape n) (triggered_word c) me.0 me.1 new t at h (omega arith) (omega arith)
              (omega arith) (settled_quiet c x (suc i) (suc i) true now phase (length ts) false)
              (settled_paced (length ts) (suc i) (suc i) true false x phase)
              (active_node g s.words (set s.words (status_place p.shape n) (triggered_word c)) m new h.follows runs_on
              (settled_ok ts c x (suc i) now (length ts) false (omega arith) (omega arith)) triggered a)),
          (sym (is_after (triggered_word x.next)), refl),
        )
      where
        idle_not : (let a : Phase = Idle in a) ≡ Telling (suc i) true → ⊥
        idle_not e = (cc)
