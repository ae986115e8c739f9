-- What a sink keeps and a meter knows: at any time the stream so far, and at the end that of the rendering.
use Rattle.std.proofs.Common.{◌≡◌, ◌≢◌, ℕ, zero, suc, ◌-◌, ◌==◌, true, false, nat_lt, cond, List, [], ◌∷◌, length}
use Rattle.std.proofs.Common.{Some, None, ◌&&◌, slice_get, option_map, unwrap_or, refl, sym, ap, ◌∙◌, subst, arith, ⊎_elim}
use Rattle.std.proofs.lemmas.Bool.{cases_Bool, cases_eq, cond-true, cond-false, eq-eqb, ne_eqb, true≢false}
use Rattle.pw_graph.specs.declared.ids.PortId.{PortId}
use Rattle.pw_graph.specs.declared.kind.Kind.TheVariants.{Sink, Meter, Dummy}
use Rattle.pw_graph.specs.declared.plan.Epoch.{Epoch}
use Rattle.pw_graph.specs.declared.plan.Plan.{Plan}
use Rattle.pw_graph.specs.KindFunction.{KindInputs}
use Rattle.pw_graph.specs.KindPorts.{input_count}
use Rattle.pw_graph.specs.PlanForms.{kind_at}
use Rattle.pw_lists.specs.Samples.{peak_of}
use Rattle.pw_graph.specs.SoundPlan.{IsSoundPlan}
use Rattle.pw_graph.specs.PlanSums.{is_sink}
use Rattle.wav_files.specs.declared.outcome.Kept.{Kept}
use Rattle.wav_files.specs.declared.outcome.Peak.{Peak}
use Rattle.pw_graph.specs.declared.kind.Kind.{Kind}
use Rattle.pw_graph.specs.declared.plan.PlanNode.{PlanNode}
use Rattle.wav_files.specs.declared.wav.WavIn.{WavIn}
use Rattle.cycle_model.specs.declared.received.Received.{Received}
use Rattle.cycle_model.specs.Epochs.{all_cycles}
use Rattle.cycle_model.specs.Cycle.{Outputs, stream_of, outputs}
use Rattle.cycle_model.specs.working.Known.{is_released, released, kept_by}
use Rattle.cycle_model.specs.Progress.{streamed, received_until, received_before}
use Rattle.cycle_model.specs.Rendering.{is_meter, end_stream, kept_of, peak_at}
use Rattle.cycle_model.proofs.ProgressLemmas.{released_is}
use Rattle.node_state.specs.declared.node_state.NodeState.{NodeState}
use Rattle.node_state.specs.StandsFor.{StandsFor, node_kind, kept_stream}
use Rattle.node_state.specs.Streams.{stream_kept_by, peak_kept_by}
use Rattle.node_state.proofs.KeptLemmas.{kept_is_stream}
use Rattle.node_progress.specs.declared.run_model.RunModel.{RunModel}
use Rattle.node_progress.specs.Ends.{received_now, IsNodeAtEnd}
use Rattle.node_progress.specs.Standing.{port_at, read_by}
use Rattle.node_progress.specs.NodeStates.{first_of, IsNodeState}
use Rattle.node_progress.proofs.RestartsLemmas.{have_cycles, released_past}

-- AT ANY TIME

pub stands_now : (run_model : RunModel) (k c n : ℕ) (s : NodeState) → IsNodeState run_model k c n s
    → StandsFor s (read_by run_model n s (received_now run_model k c n))
stands_now run_model k c n s st =
    let out = outputs run_model.plan.value run_model.waves.value in
    let first = first_of run_model.plan.value k in
    let before = received_before run_model.plan.value out c n in
    let until = received_until run_model.plan.value out c n in
    ⊎_elim
    (λ (is : c ≡ first). subst (λ (r : Received). StandsFor s (read_by run_model n s r)) (sym (cond-true (c == first) before until (eq-eqb c first is)))
    (st.begun is))
    (λ (later : c ≢ first). subst (λ (r : Received). StandsFor s (read_by run_model n s r))
    (sym (cond-false (c == first) before until (ne_eqb c first later))) (st.done later))
    (cases_eq c first)

-- a sink keeps the stream of its input
pub kept_now : (run_model : RunModel) (k c n : ℕ) (s : NodeState) → IsNodeState run_model k c n s → kind_at run_model.plan.value n ≡ Sink
    → kept_stream s ≡ (received_now run_model k c n).a
kept_now run_model k c n s st sink = let h : KindInputs = read_by run_model n s (received_now run_model k c n) in
    kept_is_stream s.state s.channels s.prepared h (stands_now run_model k c n s st).1 ∙ ap (λ kd. stream_kept_by kd h) (st.kind ∙ sink)

-- what a meter answers of all that it may stand for is the peak of its input's stream
pub greatest_now : (run_model : RunModel) (k c n : ℕ) (s : NodeState) → IsNodeState run_model k c n s → kind_at run_model.plan.value n ≡ Meter
    → (m : ℕ) → ((h : KindInputs) → StandsFor s h → m ≡ peak_kept_by (node_kind s) h) → m ≡ peak_of (received_now run_model k c n).a
greatest_now run_model k c n s st meter m is = let h : KindInputs = read_by run_model n s (received_now run_model k c n) in
    is h (stands_now run_model k c n s st) ∙ ap (λ kd. peak_kept_by kd h) (st.kind ∙ meter)

-- AT THE END

-- no epoch begins there, and nothing is released
past_last : (es : List Epoch) → slice_get es (length es) ≡ None
past_last [] = refl
past_last (e ∷ es) = past_last es

pub end_first : (plan : Plan) → first_of plan (length plan.epochs) ≡ all_cycles plan
end_first plan = ap (λ o. unwrap_or (option_map (λ (e : Epoch). e.shape.first) o) (all_cycles plan)) (past_last plan.epochs)

received_end : (run_model : RunModel) → IsSoundPlan run_model.plan.value → (n : ℕ)
    → received_now run_model (length run_model.plan.value.epochs) (all_cycles run_model.plan.value) n
    ≡ received_until run_model.plan.value (outputs run_model.plan.value run_model.waves.value) (all_cycles run_model.plan.value) n
received_end run_model sound n =
    let plan = run_model.plan.value in
    let out = outputs plan run_model.waves.value in
    let all = all_cycles plan in
    let before = received_before plan out all n in
    let until = received_until plan out all n in
    let stays : is_released plan.epochs all n ≡ false = released_past 0 plan.epochs all n sound.follow (have_cycles plan sound) (omega arith) in
    cond-true (all == first_of plan (length plan.epochs)) before until (eq-eqb all (first_of plan (length plan.epochs)) (sym (end_first plan)))
    ∙ released_is plan out all n sound.follow ∙ cond-false (is_released plan.epochs all n) (released until) until stays

-- the stream up to the last cycle is the one after all cycles
end_of : (plan : Plan) (out : Outputs) (port : PortId) (m : ℕ)
    → cond (m == 0) [] (stream_of plan out (m - 1) port) ≡ streamed plan out m port
end_of plan out port zero = refl
end_of plan out port (suc m) =
    let less : suc m - 1 ≡ m = omega arith in
    cond-false (suc m == 0) [] (stream_of plan out (suc m - 1) port) (ne_eqb (suc m) 0 (λ e. omega (arith, e)))
    ∙ ap (λ c. stream_of plan out c port) less

module _ (run_model : RunModel) (sound : IsSoundPlan run_model.plan.value) (n : ℕ) where
  abbrev plan : Plan
  plan = run_model.plan.value

  abbrev waves : List WavIn
  waves = run_model.waves.value

  read_end : nat_lt 0 (input_count (kind_at plan n)) ≡ true
      → (received_now run_model (length plan.epochs) (all_cycles plan) n).a ≡ end_stream plan waves n
  read_end some = ap (λ (r : Received). r.a) (received_end run_model sound n)
      ∙ cond-true (nat_lt 0 (input_count (kind_at plan n))) (streamed plan (outputs plan waves) (all_cycles plan) (port_at n 0)) [] some
      ∙ sym (end_of plan (outputs plan waves) (port_at n 0) (all_cycles plan))

  module _ (s : NodeState) (st : IsNodeAtEnd run_model n s) where
    -- A SINK keeps the stream that the rendering names
    pub kept_at_end : kind_at plan n ≡ Sink → kept_stream s ≡ end_stream plan waves n
    kept_at_end sink = kept_now run_model (length plan.epochs) (all_cycles plan) n s st sink
        ∙ read_end (ap (λ kd. nat_lt 0 (input_count kd)) sink)

    -- A METER knows the peak of it
    pub greatest_at_end : kind_at plan n ≡ Meter → (m : ℕ) → ((h : KindInputs) → StandsFor s h → m ≡ peak_kept_by (node_kind s) h)
        → m ≡ peak_of (end_stream plan waves n)
    greatest_at_end meter m is = greatest_now run_model (length plan.epochs) (all_cycles plan) n s st meter m is
        ∙ ap peak_of (read_end (ap (λ kd. nat_lt 0 (input_count kd)) meter))

    -- so the entries of the rendering are those of the states
    module _ (node : PlanNode) (at : slice_get plan.nodes n ≡ Some node) where
      kind_is : kind_at plan n ≡ node.kind
      kind_is = ap (λ o. unwrap_or (option_map (λ (x : PlanNode). x.kind) o) Dummy) at

      pub kept_rendered : kept_of plan waves (n, node) ≡ kept_by n node (record { frames = 0; a = kept_stream s; b = [] })
      kept_rendered = ⊎_elim
          (λ (t : is_sink node.kind ≡ true). ap (λ l. cond (is_sink node.kind && nat_lt 0 node.rate)
          (Some (let k : Kept = record { node = n; wav = record { rate = node.rate; channels = node.channels; samples = l } } in k)) None)
          (sym (kept_at_end (kind_is ∙ a_sink node.kind t))))
          (λ (f : is_sink node.kind ≡ false). rw f refl)
          (cases_Bool (is_sink node.kind))
        where
          a_sink : (kd : Kind) → is_sink kd ≡ true → kd ≡ Sink
          a_sink Sink t = refl
          a_sink _ t = absurd (true≢false (sym t))

      pub greatest_rendered : (m : ℕ) → ((h : KindInputs) → StandsFor s h → m ≡ peak_kept_by (node_kind s) h)
          → peak_at plan waves (n, node) ≡ cond (is_meter node.kind && nat_lt 0 node.rate) (Some (record { node = n; value = m })) None
      greatest_rendered m is = ⊎_elim
          (λ (t : is_meter node.kind ≡ true). ap (λ v. cond (is_meter node.kind && nat_lt 0 node.rate)
          (Some (let p : Peak = record { node = n; value = v } in p)) None)
          (sym (greatest_at_end (kind_is ∙ a_meter node.kind t) m is)))
          (λ (f : is_meter node.kind ≡ false). rw f refl)
          (cases_Bool (is_meter node.kind))
        where
          a_meter : (kd : Kind) → is_meter kd ≡ true → kd ≡ Meter
          a_meter Meter t = refl
          a_meter _ t = absurd (true≢false (sym t))
