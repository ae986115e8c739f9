-- A node's state, one cycle further: it stands for all that the node has received, and gives what its outputs give.
use Rattle.std.proofs.Common.{◌≡◌, ℕ, suc, ◌+◌, ◌-◌, ◌*◌, Bool, true, false, nat_lt, cond, List, [], ◌∷◌, ◌++◌, length}
use Rattle.std.proofs.Common.{filter, Some, ℤ, refl, sym, ap, ◌∙◌, arith, map-id, length-append}
use Rattle.std.specs.List.{range_with_len}
use Rattle.std.proofs.lemmas.List.Elements.{filter-append}
use Rattle.std.proofs.lemmas.List.FromFn.{map-range_with_len_more}
use Rattle.std.proofs.lemmas.Bool.{cond-true}
use Rattle.pw_graph.specs.declared.ids.PortId.{PortId}
use Rattle.pw_graph.specs.declared.kind.Kind.{Kind}
use Rattle.pw_graph.specs.declared.kind.Kind.TheVariants.{Source, Square, Gain, Mix2, Delay, Map, Split, Sink, Meter, Dummy}
use Rattle.pw_graph.specs.declared.plan.Epoch.{Epoch}
use Rattle.pw_graph.specs.declared.plan.Plan.{Plan}
use Rattle.pw_graph.specs.KindFunction.{KindInputs, kind_output}
use Rattle.pw_graph.specs.KindPorts.{input_count}
use Rattle.pw_graph.specs.PlanForms.{kind_at}
use Rattle.wav_files.specs.declared.wav.WavIn.{WavIn}
use Rattle.cycle_model.specs.declared.received.Received.{Received}
use Rattle.cycle_model.specs.Epochs.{epoch_at, listed, is_active, channels_of, channels_at, active_cycles}
use Rattle.cycle_model.specs.Cycle.{Outputs, wave_of, last_of, input_of, stream_of, kind_inputs_at, outputs}
use Rattle.cycle_model.specs.Mixing.{takes_part}
use Rattle.cycle_model.specs.KindSamples.{kind_inputs_of}
use Rattle.cycle_model.specs.Progress.{received_until, received_before, begun}
use Rattle.cycle_model.specs.Renderable.{IsRenderable}
use Rattle.cycle_model.proofs.CycleLemmas.{active_in, inputs_same}
use Rattle.cycle_model.proofs.ProgressLemmas.{stream_parts}
use Rattle.cycle_model.proofs.OutputsLemmas.{outputs_solve}
use Rattle.node_state.specs.Streams.{followed, output_now}
use Rattle.node_progress.specs.declared.run_model.RunModel.{RunModel}
use Rattle.node_progress.specs.Standing.{port_at, receives, goes_out}

-- one number more of a range, filtered
pub one_more : (p : ℕ → Bool) (c : ℕ) → p c ≡ true
    → length (filter p (range_with_len 0 (c + 1))) ≡ length (filter p (range_with_len 0 c)) + 1
one_more p c t =
    let more : range_with_len 0 (c + 1) ≡ range_with_len 0 c ++ c ∷ [] = sym (map-id (range_with_len 0 (c + 1)))
    ∙ map-range_with_len_more (λ (k : ℕ). k) 0 c c (omega arith) ∙ ap (λ (r : List ℕ). r ++ c ∷ []) (map-id (range_with_len 0 c)) in
    ap (λ r. length (filter p r)) more
    ∙ ap length (filter-append p (range_with_len 0 c) (c ∷ []))
    ∙ length-append (filter p (range_with_len 0 c)) (filter p (c ∷ []))
    ∙ ap (λ r. length (filter p (range_with_len 0 c)) + length r) (cond-true (p c) (c ∷ []) [] t)

-- what is added to a stream, or to no stream
both : (yes : Bool) (old new : List ℤ) → cond yes old [] ++ cond yes new [] ≡ cond yes (old ++ new) []
both true old new = refl
both false old new = refl

-- a kind with an input reads no count of frames
frames_free : (k : Kind) (h : KindInputs) (f o : ℕ) → (input_count k ≡ 0 → h.frames ≡ f)
    → kind_output k h o ≡ kind_output k (record h { frames = f }) o
frames_free Source h f o same = ap (λ m. kind_output Source (record h { frames = m }) o) (same refl)
frames_free (Square x y z w) h f o same = ap (λ m. kind_output (Square x y z w) (record h { frames = m }) o) (same refl)
frames_free (Gain x) h f o same = refl
frames_free (Mix2 x y) h f o same = refl
frames_free (Delay x) h f o same = refl
frames_free (Map x y) h f o same = refl
frames_free Split h f o same = refl
frames_free Sink h f o same = refl
frames_free Meter h f o same = refl
frames_free Dummy h f o same = refl

module _ (run_model : RunModel) (c n : ℕ) (e : Epoch) (at : epoch_at run_model.plan.value c ≡ Some e) (part : takes_part e n ≡ true) where
  abbrev plan : Plan
  plan = run_model.plan.value

  abbrev waves : List WavIn
  waves = run_model.waves.value

  abbrev out : Outputs
  out = outputs plan waves

  abbrev kind : Kind
  kind = kind_at plan n

  abbrev past : Received
  past = received_before plan out c n

  abbrev active_before : ℕ → ℕ
  active_before m = length (filter (λ k. is_active plan k n) (range_with_len 0 m))

  active : is_active plan c n ≡ true
  active = active_in plan c e n at ∙ part

  -- the stream of an input goes on with what is received
  goes_on : (i : ℕ) → cond (nat_lt i (input_count kind)) (begun plan out c (port_at n i)) [] ++ receives run_model c n i
      ≡ cond (nat_lt i (input_count kind)) (stream_of plan out c (port_at n i)) []
  goes_on i = both (nat_lt i (input_count kind)) (begun plan out c (port_at n i)) (input_of plan out c (port_at n i))
      ∙ ap (λ s. cond (nat_lt i (input_count kind)) s [])
      (sym (stream_parts plan out c (port_at n i) ∙ ap (λ t. begun plan out c (port_at n i) ++ t)
      (cond-true (is_active plan c n) (input_of plan out c (port_at n i)) [] active)))

  -- what was received before the cycle, followed by the cycle's inputs, is what is received after it
  pub joined : (w : List ℤ) (channels frames q : ℕ) (a b : List ℤ) → a ≡ receives run_model c n 0 → b ≡ receives run_model c n 1
      → followed q a b (record (kind_inputs_of w channels past) { frames = frames })
      ≡ record (kind_inputs_of w channels (received_until plan out (suc c) n)) { frames = frames + q }
  joined w channels frames q a b ea eb = parts (ap (λ x. past.a ++ x) ea ∙ goes_on 0) (ap (λ x. past.b ++ x) eb ∙ goes_on 1)
    where
      parts : {x y s t : List ℤ} → x ≡ s → y ≡ t
          → (let h : KindInputs = record { wave = w; frames = frames + q; channels = channels; a = x; b = y } in h)
          ≡ (let h : KindInputs = record { wave = w; frames = frames + q; channels = channels; a = s; b = t } in h)
      parts p r i = record { wave = w; frames = frames + q; channels = channels; a = p i; b = r i }

  -- the last quantum of the kind's function of it is what the output gives
  gives : IsRenderable plan waves → (o : ℕ)
      → last_of (plan.quantum * channels_of e.forms (port_at n (input_count kind + o)))
      (kind_output kind (kind_inputs_of (wave_of waves n) (channels_of e.forms (port_at n (input_count kind + o)))
      (received_until plan out (suc c) n)) o)
      ≡ goes_out run_model c n o
  gives renderable o =
      let p : PortId = port_at n (input_count kind + o) in
      let channels : channels_at plan c p ≡ channels_of e.forms p = ap (λ x. channels_of (listed (λ e. e.forms) x) p) at in
      let which : p.port - input_count kind ≡ o = omega arith in
      let cycles : suc c ≡ c + 1 - 0 = omega arith in
      let ch = channels_of e.forms p in
      let a = stream_of plan out c (port_at n 0) in
      let b = stream_of plan out c (port_at n 1) in
      let frames : plan.quantum * active_before (suc c) ≡ plan.quantum * length (active_cycles plan 0 c n) =
      ap (λ m. plan.quantum * active_before m) cycles in
      ap (last_of (plan.quantum * ch))
      (inputs_same kind (wave_of waves n) (plan.quantum * active_before (suc c)) ch a b o
      ∙ ap (λ m. kind_output kind (let h : KindInputs = record { wave = wave_of waves n; frames = m; channels = ch; a = a; b = b } in h) o)
      frames)
      ∙ ap (λ m. last_of (plan.quantum * m) (kind_output kind
      (let h : KindInputs = record {
        wave = wave_of waves n;
        frames = plan.quantum * length (active_cycles plan 0 c n);
        channels = m;
        a = a;
        b = b;
      } in h) o)) (sym channels)
      ∙ ap (λ m. last_of (plan.quantum * channels_at plan c p) (kind_output kind (kind_inputs_at plan waves out c p) m)) (sym which)
      ∙ sym (outputs_solve plan waves renderable c p active)

  -- one quantum more is that of one active cycle more
  frames_on : (f q : ℕ) → q ≡ plan.quantum → f ≡ plan.quantum * active_before c → f + q ≡ plan.quantum * active_before (suc c)
  frames_on f q eq ef = let one : suc c ≡ c + 1 = omega arith in
      (λ i. ef i + eq i) ∙ times plan.quantum (active_before c)
      ∙ ap (λ m. plan.quantum * m) (sym (one_more (λ k. is_active plan k n) c active))
      ∙ ap (λ m. plan.quantum * active_before m) (sym one)
    where
      times : (q m : ℕ) → q * m + q ≡ q * (m + 1)
      times q m = omega arith

  -- so what a state writes is what the output gives
  pub output_is : IsRenderable plan waves → (k : Kind) → k ≡ kind → (q : ℕ) → q ≡ plan.quantum → (f : ℕ)
      → (input_count kind ≡ 0 → f ≡ plan.quantum * active_before c) → (a b : List ℤ)
      → a ≡ receives run_model c n 0 → b ≡ receives run_model c n 1 → (o ch m : ℕ)
      → channels_of e.forms (port_at n (input_count kind + o)) ≡ ch → m ≡ plan.quantum * channels_of e.forms (port_at n (input_count kind + o))
      → output_now k (followed q a b (record (kind_inputs_of (wave_of waves n) ch past) { frames = f })) o m ≡ goes_out run_model c n o
  output_is renderable k ks q eq f ef a b ea eb o ch m ech em =
      ap (λ j. output_now j (followed q a b (record (kind_inputs_of (wave_of waves n) ch past) { frames = f })) o m) ks
      ∙ ap (λ h. output_now kind h o m) (joined (wave_of waves n) ch f q a b ea eb)
      ∙ ap (λ (x : List ℤ). last_of m x) (frames_free kind (record (kind_inputs_of (wave_of waves n) ch (received_until plan out (suc c) n))
      { frames = f + q }) (plan.quantum * active_before (suc c)) o (λ none. frames_on f q eq (ef none)))
      ∙ (λ i. last_of (em i) (kind_output kind (kind_inputs_of (wave_of waves n) (sym ech i) (received_until plan out (suc c) n)) o))
      ∙ gives renderable o
