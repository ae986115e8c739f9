-- A node that does not work in an epoch: its inputs receive nothing, so its state is the one that
-- it was.
use Rattle.std.proofs.Common.{◌≡◌, ℕ, zero, suc, ◌+◌, ◌-◌, ◌*◌, ◌<◌, ◌≤◌, ◌==◌, ◌||◌, Bool, true, false, not, nat_lt, cond}
use Rattle.std.proofs.Common.{List, [], ◌∷◌, ◌++◌, length, filter, Some, option_map, unwrap_or, refl, sym, ap, ◌∙◌, subst, arith}
use Rattle.std.proofs.Common.{⊎_elim, append-nil, ℤ}
use Rattle.std.specs.List.{list_any, range_with_len}
use Rattle.std.proofs.lemmas.Bool.{cases_Bool, cond-true, cond-false, eqb-true, le-ltb, true≢false}
use Rattle.std.proofs.lemmas.Option.{slice_get_within, get_or_from_slice_get}
use Rattle.pw_graph.specs.declared.ids.PortId.{PortId}
use Rattle.pw_graph.specs.declared.kind.Kind.{Kind}
use Rattle.pw_graph.specs.declared.kind.Kind.TheVariants.{Sink, Meter}
use Rattle.pw_graph.specs.declared.plan.Epoch.{Epoch}
use Rattle.pw_graph.specs.declared.plan.Plan.{Plan}
use Rattle.pw_graph.specs.declared.plan.PortForm.{PortForm}
use Rattle.pw_graph.specs.KindPorts.{input_count}
use Rattle.pw_graph.specs.KindRanges.{IsSinkOrMeter}
use Rattle.pw_graph.specs.PlanForms.{kind_at}
use Rattle.pw_graph.specs.PlanFresh.{IsEpoch}
use Rattle.pw_graph.specs.Pools.{is_same_port}
use Rattle.pw_graph.specs.SoundPlan.{IsSoundEpoch, IsSoundPlan}
use Rattle.cycle_model.specs.declared.received.Received.{Received}
use Rattle.cycle_model.specs.Epochs.{listed, epoch_at, is_active, channels_of, all_cycles}
use Rattle.cycle_model.specs.Cycle.{Outputs, input_of, stream_of, outputs}
use Rattle.cycle_model.specs.working.Known.{is_released, released}
use Rattle.cycle_model.specs.Mixing.{takes_part}
use Rattle.cycle_model.specs.Progress.{begun, received_until, received_before}
use Rattle.cycle_model.specs.WavesFit.{WavesFit}
use Rattle.cycle_model.proofs.CycleLemmas.{active_in}
use Rattle.cycle_model.proofs.ExpectedLemmas.{cycle_in}
use Rattle.cycle_model.proofs.ProgressLemmas.{filter_more, released_is, stream_parts}
use Rattle.node_state.specs.declared.node_state.NodeState.{NodeState}
use Rattle.node_state.specs.StandsFor.{StandsFor}
use Rattle.node_progress.specs.declared.run_model.RunModel.{RunModel}
use Rattle.node_progress.specs.Standing.{port_at, read_by, HasReceivedBefore, HasReceivedUntil, works_in, works, worked}
use Rattle.node_progress.specs.NodeStates.{first_of, IsNodeState}
use Rattle.node_progress.proofs.StateLemmas.{not_released}
use Rattle.node_progress.proofs.RestartsLemmas.{nothing_in, have_cycles}

-- a state stands for streams only
pub alike : (run_model : RunModel) (n : ℕ) (s : NodeState) (r q : Received) → r.a ≡ q.a → r.b ≡ q.b → StandsFor s (read_by run_model n s r)
    → StandsFor s (read_by run_model n s q)
alike run_model n s r q ea eb = subst (λ (ab : List ℤ × List ℤ).
    StandsFor s (read_by run_model n s (record { frames = 0; a = ab.0; b = ab.1 }))) (λ i. (ea i, eb i))

-- a port that no form is of has no channels
no_channels : (forms : List PortForm) (port : PortId) → list_any (λ f. is_same_port f.port port) forms ≡ false → channels_of forms port ≡ 0
no_channels [] port none = refl
no_channels (f ∷ fs) port none = ⊎_elim
    (λ (yes : is_same_port f.port port ≡ true). absurd (true≢false (rw yes at none)))
    (λ (no : is_same_port f.port port ≡ false). rw no (no_channels fs port (rw no at none)))
    (cases_Bool (is_same_port f.port port))

-- a node that is active and does not work drives, and its input has no form
formless_driver : (drives formed : Bool) → (not drives || formed) ≡ false → (drives ≡ true) × (formed ≡ false)
formless_driver true false off = (refl, refl)
formless_driver true true off = absurd (true≢false off)
formless_driver false formed off = absurd (true≢false off)

-- sinks and meters have one input
ends_once : (kd : Kind) → IsSinkOrMeter kd → input_count kd ≡ 1
ends_once Sink ends = refl
ends_once Meter ends = refl
ends_once _ ends = absurd ends

one_input : (kd : Kind) (i : ℕ) → IsSinkOrMeter kd → (x y : List ℤ) → (i ≡ 0 → x ≡ y)
    → cond (nat_lt i (input_count kd)) x [] ≡ cond (nat_lt i (input_count kd)) y []
one_input kd zero ends x y same = ap (λ z. cond (nat_lt 0 (input_count kd)) z []) (same refl)
one_input kd (suc i) ends x y same =
    let past : nat_lt (suc i) (input_count kd) ≡ false = le-ltb (suc i) (input_count kd) (let one = ends_once kd ends in omega (arith, one)) in
    cond-false (nat_lt (suc i) (input_count kd)) x [] past ∙ sym (cond-false (nat_lt (suc i) (input_count kd)) y [] past)

module _ (run_model : RunModel) (k : ℕ) (e : Epoch) (n : ℕ) (sound : IsSoundPlan run_model.plan.value)
    (place : n < length run_model.plan.value.nodes) (at : IsEpoch run_model.plan.value k e) (off : works_in e n ≡ false) where
  abbrev plan : Plan
  plan = run_model.plan.value

  abbrev out : Outputs
  out = outputs plan run_model.waves.value

  abbrev first : ℕ
  first = e.shape.first

  -- a cycle of the epoch
  abbrev IsOf : ℕ → Type 0
  IsOf c = (first ≤ c) × (c < first + e.shape.cycles)

  here : (c : ℕ) → IsOf c → epoch_at plan c ≡ Some e
  here c of = let low = of.0 in let high = of.1 in
      subst (λ m. epoch_at plan m ≡ Some e) (let is : first + (c - first) ≡ c = omega (arith, low) in is)
      (cycle_in plan sound k e (c - first) at (omega (arith, low, high)))

  sound_here : IsSoundEpoch plan e
  sound_here = subst (IsSoundEpoch plan) (get_or_from_slice_get plan.epochs k e e at)
      (sound.epochs k e (slice_get_within plan.epochs k e at))

  -- no stream of it goes on
  quiet : (c : ℕ) → IsOf c → (i : ℕ) → cond (nat_lt i (input_count (kind_at plan n))) (begun plan out c (port_at n i)) []
      ≡ cond (nat_lt i (input_count (kind_at plan n))) (stream_of plan out c (port_at n i)) []
  quiet c of i = ⊎_elim
      (λ (part : takes_part e n ≡ true). driver part)
      (λ (idle : takes_part e n ≡ false). ap (λ s. cond (nat_lt i (input_count (kind_at plan n))) s [])
      (sym (stream_parts plan out c (port_at n i) ∙ ap (λ t. begun plan out c (port_at n i) ++ t)
      (cond-false (is_active plan c n) (input_of plan out c (port_at n i)) [] (active_in plan c e n (here c of) ∙ idle))
      ∙ append-nil (begun plan out c (port_at n i)))))
      (cases_Bool (takes_part e n))
    where
      driver : takes_part e n ≡ true → cond (nat_lt i (input_count (kind_at plan n))) (begun plan out c (port_at n i)) []
          ≡ cond (nat_lt i (input_count (kind_at plan n))) (stream_of plan out c (port_at n i)) []
      driver part =
          let is = formless_driver (e.shape.driver == n) (list_any (λ f. is_same_port f.port (port_at n 0)) e.forms) (rw part at off) in
          let drives : e.shape.driver ≡ n = eqb-true e.shape.driver n is.0 in
          let ends : IsSinkOrMeter (kind_at plan n) = ⊎_elim
          (λ (dummy : e.shape.driver ≡ 63). let few = sound.few in absurd (omega (arith, dummy, few, place, drives)))
          (λ (ends : IsSinkOrMeter (kind_at plan e.shape.driver)). subst (λ m. IsSinkOrMeter (kind_at plan m)) drives ends)
          sound_here.places.driver in
          one_input (kind_at plan n) i ends _ _ (λ zeroth.
          let empty : input_of plan out c (port_at n i) ≡ [] = nothing_in plan out c (port_at n i)
          (ap (λ o. channels_of (listed (λ x. x.forms) o) (port_at n i)) (here c of)
          ∙ ap (λ j. channels_of e.forms (port_at n j)) zeroth ∙ no_channels e.forms (port_at n 0) is.1) in
          sym (stream_parts plan out c (port_at n i) ∙ ap (λ t. begun plan out c (port_at n i) ++ t)
          (cond-true (is_active plan c n) (input_of plan out c (port_at n i)) [] (active_in plan c e n (here c of) ∙ part) ∙ empty)
          ∙ append-nil (begun plan out c (port_at n i))))

  module _ (s : NodeState) where
    -- one cycle
    one : (c : ℕ) → IsOf c → HasReceivedBefore run_model c n s → HasReceivedUntil run_model (suc c) n s
    one c of = alike run_model n s (received_before plan out c n) (received_until plan out (suc c) n) (quiet c of 0) (quiet c of 1)

    -- the cycle m of the epoch, counted from 0
    all : HasReceivedBefore run_model first n s → (m c : ℕ) → c ≡ first + m → m < e.shape.cycles → HasReceivedUntil run_model (suc c) n s
    all before zero c is low = one c (omega (arith, is), omega (arith, is, low))
        (subst (λ j. HasReceivedBefore run_model j n s) (let same : first ≡ c = omega (arith, is) in same) before)
    all before (suc m) c is low =
        let last : ℕ = first + m in
        let next : suc last ≡ c = omega (arith, is) in
        let so_far : HasReceivedUntil run_model c n s = subst (λ j. HasReceivedUntil run_model j n s) next
        (all before m last refl (omega (arith, low))) in
        let stays : is_released plan.epochs c n ≡ false = not_released 0 plan.epochs k e c n sound.follow at (omega (arith, is))
        (omega (arith, is, low)) in
        one c (omega (arith, is), omega (arith, is, low))
        (subst (λ (r : Received). StandsFor s (read_by run_model n s r)) (sym (released_is plan out c n sound.follow
        ∙ cond-false (is_released plan.epochs c n) (released (received_until plan out c n)) (received_until plan out c n) stays)) so_far)

  -- it works in no cycle
  works_not : (c : ℕ) → IsOf c → works plan n c ≡ false
  works_not c of = ap (λ o. unwrap_or (option_map (λ x. works_in x n) o) false) (here c of) ∙ off

  worked_still : (m : ℕ) → m ≤ e.shape.cycles → worked plan n (first + m) ≡ worked plan n first
  worked_still zero low = let z : first + 0 ≡ first = omega arith in ap (worked plan n) z
  worked_still (suc m) low =
      let next : first + suc m ≡ first + m + 1 = omega arith in
      ap (worked plan n) next
      ∙ ap length (filter_more (works plan n) 0 (first + m) (first + m) (omega arith)
      ∙ ap (λ t. filter (works plan n) (range_with_len 0 (first + m)) ++ t)
      (cond-false (works plan n (first + m)) ((first + m) ∷ []) [] (works_not (first + m) (omega arith, omega (arith, low))))
      ∙ append-nil (filter (works plan n) (range_with_len 0 (first + m))))
      ∙ worked_still m (omega (arith, low))

  some : 1 ≤ e.shape.cycles
  some = subst (λ (x : Epoch). 1 ≤ x.shape.cycles) (get_or_from_slice_get plan.epochs k e e at)
      (have_cycles plan sound k e (slice_get_within plan.epochs k e at))

  first_here : first_of plan k ≡ first
  first_here = ap (λ o. unwrap_or (option_map (λ (x : Epoch). x.shape.first) o) (all_cycles plan)) at

-- THROUGH the epoch: the state stands at its end as it stood at its begin
pub idle_through : (run_model : RunModel) (k : ℕ) (e : Epoch) (n : ℕ) → IsSoundPlan run_model.plan.value → WavesFit run_model.plan.value run_model.waves.value
    → n < length run_model.plan.value.nodes → IsEpoch run_model.plan.value k e → works_in e n ≡ false → (s : NodeState)
    → IsNodeState run_model k e.shape.first n s → IsNodeState run_model k (e.shape.first + e.shape.cycles) n s
idle_through run_model k e n sound fit place at off s st =
    let plan = run_model.plan.value in
    let more = some run_model k e n sound place at off in
    let begins = first_here run_model k e n sound place at off in
    let last : ℕ = e.shape.first + (e.shape.cycles - 1) in
    let end : suc last ≡ e.shape.first + e.shape.cycles = omega (arith, more) in record {
      kind = st.kind;
      wave = st.wave;
      quantum = st.quantum;
      frames = st.frames ∙ ap (λ m. plan.quantum * m) (sym (worked_still run_model k e n sound place at off e.shape.cycles (omega arith)));
      prepared = st.prepared;
      most = st.most;
      channels = st.channels;
      begun = λ is. absurd (omega (arith, is, begins, more));
      done = λ later. subst (λ j. HasReceivedUntil run_model j n s) end
          (all run_model k e n sound place at off s (st.begun (sym begins)) (e.shape.cycles - 1) last refl (omega (arith, more)));
    }
