-- The state of a node in a sound plan: its channels are those of its ports' forms, and its frames are enough.
use Rattle.std.proofs.Common.{◌≡◌, ◌≢◌, ℕ, zero, suc, ◌+◌, ◌-◌, ◌*◌, ◌<◌, ◌≤◌, ◌==◌, ◌||◌, true, false, not, cond}
use Rattle.std.proofs.Common.{List, [], ◌∷◌, length, map, filter, Option, Some, None, slice_get, option_map, unwrap_or}
use Rattle.std.proofs.Common.{refl, sym, ap, ◌∙◌, subst, arith, ⊎_elim, length-append}
use Rattle.std.specs.List.{list_any, range_with_len}
use Rattle.std.proofs.lemmas.Bool.{cases_Bool, cases_eq, cond-false, ne_eqb, and_parts}
use Rattle.std.proofs.lemmas.Option.{same_Some, none-some, slice_get_within}
use Rattle.pw_graph.specs.declared.kind.Kind.{Kind}
use Rattle.pw_graph.specs.declared.kind.Kind.TheVariants.{Sink, Meter}
use Rattle.pw_graph.specs.declared.plan.Epoch.{Epoch}
use Rattle.pw_graph.specs.declared.plan.Plan.{Plan}
use Rattle.pw_graph.specs.KindPorts.{input_count}
use Rattle.pw_graph.specs.KindRanges.{IsSinkOrMeter}
use Rattle.pw_graph.specs.PlanForms.{kind_at}
use Rattle.pw_graph.specs.SoundPlan.{FollowFrom, IsSoundEpoch}
use Rattle.cycle_model.specs.declared.received.Received.{Received}
use Rattle.cycle_model.specs.Epochs.{is_within, epoch_at, listed, is_active, all_cycles}
use Rattle.cycle_model.specs.Cycle.{outputs}
use Rattle.cycle_model.specs.working.Known.{is_released, released}
use Rattle.cycle_model.specs.Mixing.{takes_part}
use Rattle.cycle_model.specs.Renderable.{IsRenderable}
use Rattle.cycle_model.proofs.SoundPlanLemmas.{sound_is_renderable}
use Rattle.cycle_model.specs.Progress.{received_until, received_before}
use Rattle.cycle_model.proofs.CycleLemmas.{active_in}
use Rattle.cycle_model.proofs.EpochLemmas.{found, last_high}
use Rattle.cycle_model.proofs.ExpectedLemmas.{cycle_in}
use Rattle.cycle_model.proofs.ProgressLemmas.{filter_more, released_is}
use Rattle.node_state.specs.declared.node_state.NodeState.{NodeState}
use Rattle.node_state.specs.StandsFor.{StandsFor, HasFramesLeft, IsSameNode, frames_so_far, node_quantum}
use Rattle.node_progress.specs.declared.run_model.RunModel.{RunModel}
use Rattle.node_progress.specs.Standing.{read_by, HasReceivedBefore, HasReceivedUntil, works_in, works, worked}
use Rattle.node_progress.specs.NodeCycles.{HasItsFrames}
use Rattle.node_progress.specs.NodeStates.{first_of, IsNodeState, IsWorkedIn}
use Rattle.node_progress.proofs.NodeLemmas.{one_more}

-- RELEASES happen only with the first cycle of an epoch

pub none_later : (f : ℕ) (es : List Epoch) (c n : ℕ) → FollowFrom f es → c < f → is_released es c n ≡ false
none_later f [] c n follow low = refl
none_later f (x ∷ xs) c n follow low =
    let first = follow.0 in
    let other : (x.shape.first == c) ≡ false = ne_eqb x.shape.first c (λ e. omega (arith, e, first, low)) in
    let rest = none_later (f + x.shape.cycles) xs c n follow.1 (omega (arith, low)) in
    rw (other, rest) refl

pub begins_after : (f : ℕ) (es : List Epoch) (k : ℕ) (e : Epoch) → FollowFrom f es → slice_get es k ≡ Some e → f ≤ e.shape.first
begins_after f [] k e h at = absurd (none-some e at)
begins_after f (x ∷ xs) zero e h at = let is = ap (λ (y : Epoch). y.shape.first) (same_Some x e at) in omega (arith, h.0, is)
begins_after f (x ∷ xs) (suc k) e h at = let more = begins_after (f + x.shape.cycles) xs k e h.1 at in omega (arith, more)

pub not_released : (f : ℕ) (es : List Epoch) (k : ℕ) (e : Epoch) (c n : ℕ) → FollowFrom f es → slice_get es k ≡ Some e
    → e.shape.first < c → c < e.shape.first + e.shape.cycles → is_released es c n ≡ false
not_released f [] k e c n h at low high = absurd (none-some e at)
not_released f (x ∷ xs) zero e c n h at low high =
    let same : x ≡ e = same_Some x e at in
    let first = ap (λ (y : Epoch). y.shape.first) same in
    let cycles = ap (λ (y : Epoch). y.shape.cycles) same in
    let begins = h.0 in
    let other : (x.shape.first == c) ≡ false = ne_eqb x.shape.first c (λ is. omega (arith, is, first, low)) in
    let rest = none_later (f + x.shape.cycles) xs c n h.1 (omega (arith, high, first, cycles, begins)) in
    rw (other, rest) refl
not_released f (x ∷ xs) (suc k) e c n h at low high =
    let after = begins_after (f + x.shape.cycles) xs k e h.1 at in
    let begins = h.0 in
    let other : (x.shape.first == c) ≡ false = ne_eqb x.shape.first c (λ is. omega (arith, is, begins, after, low)) in
    let rest = not_released (f + x.shape.cycles) xs k e c n h.1 at low high in
    rw (other, rest) refl

-- sinks and meters have an input
no_source : (kd : Kind) → IsSinkOrMeter kd → input_count kd ≡ 0 → ⊥
no_source Sink ends none = omega (arith, none)
no_source Meter ends none = omega (arith, none)
no_source _ ends none = ends

-- WORKED CYCLES

worked_more : (plan : Plan) (n c : ℕ) → worked plan n c ≤ worked plan n (c + 1)
worked_more plan n c = let joined = ap length (filter_more (works plan n) 0 c c (omega arith))
    ∙ length-append (filter (works plan n) (range_with_len 0 c)) (cond (works plan n c) (c ∷ []) []) in
    omega (arith, joined)

worked_most : (plan : Plan) (n c d : ℕ) → worked plan n c ≤ worked plan n (c + d)
worked_most plan n c zero = let z : c + 0 ≡ c = omega arith in subst (λ m. worked plan n c ≤ worked plan n m) (sym z) (omega arith)
worked_most plan n c (suc d) = let s : c + suc d ≡ c + d + 1 = omega arith in
    let a = worked_most plan n c d in let b = worked_more plan n (c + d) in
    subst (λ m. worked plan n c ≤ worked plan n m) (sym s) (omega (arith, a, b))

-- frames of quanta that stay within those of more
within_all : (q a b : ℕ) → a + 1 ≤ b → q * a + q ≤ q * b
within_all q a b low = let d : ℕ = b - (a + 1) in let e : a + 1 + d ≡ b = omega (arith, low) in
    subst (λ m. q * a + q ≤ q * m) e (parts q a d)
  where
    parts : (q a d : ℕ) → q * a + q ≤ q * (a + 1 + d)
    parts q a d = let whole : q * (a + 1 + d) ≡ q * a + q + q * d = omega arith in omega (arith, whole)

module _ (run_model : RunModel) (k c n : ℕ) (w : IsWorkedIn run_model k c n) where
  abbrev plan : Plan
  plan = run_model.plan.value

  abbrev e : Epoch
  e = w.epoch

  pub here : epoch_at plan c ≡ Some e
  here = let low = w.from in let at : e.shape.first + (c - e.shape.first) ≡ c = omega (arith, low) in
      subst (λ m. epoch_at plan m ≡ Some e) at
      (cycle_in plan w.sound k e (c - e.shape.first) w.at (let high = w.to in omega (arith, low, high)))

  pub epoch_sound : IsSoundEpoch plan e
  epoch_sound = (found (IsSoundEpoch plan) (λ e. is_within e c) plan.epochs e w.sound.epochs here).0

  first_is : first_of plan k ≡ e.shape.first
  first_is = ap (λ o. unwrap_or (option_map (λ (x : Epoch). x.shape.first) o) (all_cycles plan)) w.at

  pub renderable : IsRenderable plan run_model.waves.value
  renderable = sound_is_renderable plan run_model.waves.value w.sound w.waves

  pub part : takes_part e n ≡ true
  part = (and_parts (takes_part e n) (not (e.shape.driver == n) || _) w.works).0

  works_now : works plan n c ≡ true
  works_now = ap (λ o. unwrap_or (option_map (λ x. works_in x n) o) false) here ∙ w.works

  pub worked_on : worked plan n (suc c) ≡ worked plan n c + 1
  worked_on = let one : suc c ≡ c + 1 = omega arith in ap (worked plan n) one ∙ one_more (works plan n) c works_now

  module _ (s : NodeState) (st : IsNodeState run_model k c n s) where
    pub quantum_is : node_quantum s ≡ plan.quantum
    quantum_is = st.quantum (let low = slice_get_within plan.epochs k e w.at in omega (arith, low))

    -- what it stands for as the cycle begins
    pub before : HasReceivedBefore run_model c n s
    before = ⊎_elim
        (λ (first : c ≡ e.shape.first). st.begun (first ∙ sym first_is))
        (λ (later : c ≢ e.shape.first).
        let out = outputs plan run_model.waves.value in
        let low = w.from in
        let stays : is_released plan.epochs c n ≡ false = not_released 0 plan.epochs k e c n w.sound.follow w.at (omega (arith, low, later)) w.to in
        let same : received_before plan out c n ≡ received_until plan out c n = released_is plan out c n w.sound.follow
        ∙ cond-false (is_released plan.epochs c n) (released (received_until plan out c n)) (received_until plan out c n) stays in
        subst (λ (r : Received). StandsFor s (read_by run_model n s r)) (sym same) (st.done (λ is. later (is ∙ first_is))))
        (cases_eq c e.shape.first)

    pub some_left : HasFramesLeft s
    some_left =
        let up_to : e.shape.first + e.shape.cycles ≤ 0 + all_cycles plan =
        last_high 0 plan.epochs (λ x. is_within x c) e w.sound.follow here in
        let all : e.shape.first + e.shape.cycles ≤ all_cycles plan = omega (arith, up_to) in
        let d : ℕ = all_cycles plan - (c + 1) in
        let high = w.to in
        let end : c + 1 + d ≡ all_cycles plan = omega (arith, all, high) in
        let more : worked plan n (c + 1) ≤ worked plan n (all_cycles plan) =
        subst (λ m. worked plan n (c + 1) ≤ worked plan n m) end (worked_most plan n (c + 1) d) in
        let one : suc c ≡ c + 1 = omega arith in
        let on : worked plan n (c + 1) ≡ worked plan n c + 1 = ap (worked plan n) (sym one) ∙ worked_on in
        let enough = within_all plan.quantum (worked plan n c) (worked plan n (all_cycles plan)) (omega (arith, more, on)) in
        let f = st.frames in let q = quantum_is in let p = st.prepared in
        omega (arith, enough, f, q, p)

    -- a node without an input drives in no cycle
    pub has_frames : HasItsFrames plan c n s
    has_frames none = st.frames ∙ ap (λ m. plan.quantum * m)
        (λ i. length (filter (λ j. each j i) (range_with_len 0 c)))
      where
        drives_not : (x : Epoch) → IsSoundEpoch plan x → x.shape.driver ≢ n
        drives_not x h is = ⊎_elim
            (λ (dummy : x.shape.driver ≡ 63). let few = w.sound.few in let low = w.place in omega (arith, is, dummy, few, low))
            (λ (ends : IsSinkOrMeter (kind_at plan x.shape.driver)).
            no_source (kind_at plan n) (subst (λ m. IsSinkOrMeter (kind_at plan m)) is ends) none)
            h.places.driver

        by : (j : ℕ) (o : Option Epoch) → epoch_at plan j ≡ o → works plan n j ≡ is_active plan j n
        by j None at = ap (λ o. unwrap_or (option_map (λ x. works_in x n) o) false) at
            ∙ sym (ap (λ o. list_any (λ m. m == n) (listed (λ x. map (λ y. y.node) x.shape.nodes) o)) at)
        by j (Some x) at =
            let h = (found (IsSoundEpoch plan) (λ y. is_within y j) plan.epochs x w.sound.epochs at).0 in
            let other : (x.shape.driver == n) ≡ false = ne_eqb x.shape.driver n (drives_not x h) in
            ap (λ o. unwrap_or (option_map (λ y. works_in y n) o) false) at
            ∙ rw other (⊎_elim (λ (t : takes_part x n ≡ true). rw t refl) (λ (f : takes_part x n ≡ false). rw f refl) (cases_Bool (takes_part x n)))
            ∙ sym (active_in plan j x n at)

        each : (j : ℕ) → works plan n j ≡ is_active plan j n
        each j = by j (epoch_at plan j) refl

    -- the state after the cycle
    pub state_on : (t : NodeState) → IsSameNode s t → frames_so_far t ≡ frames_so_far s + node_quantum s → HasReceivedUntil run_model (suc c) n t
        → IsNodeState run_model k (suc c) n t
    state_on t same on until = record {
      kind = same.0 ∙ st.kind;
      wave = same.1 ∙ st.wave;
      quantum = λ some. same.2 ∙ st.quantum some;
      frames = on ∙ (λ i. st.frames i + quantum_is i) ∙ times plan.quantum (worked plan n c) ∙ ap (λ m. plan.quantum * m) (sym worked_on);
      prepared = same.5 ∙ st.prepared;
      most = λ j channels named. subst (λ m. channels ≤ m) (sym same.4) (st.most j channels named);
      channels = λ j channels low named stays some. same.3 ∙ st.channels j channels low named stays some;
      begun = λ is. let low = w.from in let f = first_is in absurd (omega (arith, is, f, low));
      done = λ later. until;
    }
      where
        times : (q m : ℕ) → q * m + q ≡ q * (m + 1)
        times q m = omega arith
