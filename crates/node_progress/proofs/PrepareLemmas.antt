-- A node's state before the run: what preparing asks, what it gives, and how the first epoch begins it.
use Rattle.std.proofs.Common.{◌≡◌, ℕ, ◌+◌, ◌*◌, ◌<◌, ◌≤◌, ◌==◌, ◌⊎◌, inl, inr, Bool, true, false, nat_lt, cond, max}
use Rattle.std.proofs.Common.{List, [], ◌∷◌, length, find, All, Option, Some, None, slice_get, option_map, unwrap_or, sum_by, Result, Ok, Err, IfOk}
use Rattle.std.proofs.Common.{refl, sym, ap, ◌∙◌, subst, arith, ⊎_elim}
use Rattle.std.proofs.lemmas.Bool.{cond_both, cases_lt, true≢false, cases_Bool, eqb-true}
use Rattle.std.proofs.lemmas.List.Elements.{All-head, All-tail}
use Rattle.std.proofs.lemmas.Option.{same_Some, none-some, slice_get_within}
use Rattle.std.proofs.Math.Nat.{le-max_left, le-max_right, mul-le-mul}
use Rattle.pw_graph.specs.declared.kind.Kind.{Kind}
use Rattle.pw_graph.specs.declared.kind.Kind.TheVariants.{Source, Square, Gain, Mix2, Delay, Map, Split, Sink, Meter, Dummy}
use Rattle.pw_graph.specs.declared.plan.Epoch.{Epoch}
use Rattle.pw_graph.specs.declared.plan.Plan.{Plan}
use Rattle.pw_graph.specs.KindFunction.{KindInputs}
use Rattle.pw_graph.specs.KindPorts.{input_count}
use Rattle.pw_graph.specs.PlanForms.{kind_at}
use Rattle.pw_graph.specs.PlanFresh.{Names}
use Rattle.pw_graph.specs.SoundPlan.{FollowFrom, IsSoundEpoch, IsSoundPlan}
use Rattle.pw_graph.specs.SoundShape.{IsBetween}
use Rattle.wav_files.specs.declared.wav.Wav.{Wav}
use Rattle.wav_files.specs.declared.wav.WavIn.{WavIn}
use Rattle.cycle_model.specs.Epochs.{all_cycles}
use Rattle.cycle_model.specs.Cycle.{Outputs, wave_of, outputs}
use Rattle.cycle_model.specs.Progress.{begun, received_before, nothing}
use Rattle.cycle_model.specs.WavesFit.{IsWaveOfSource, WavesFit}
use Rattle.cycle_model.proofs.ProgressLemmas.{begun_first}
use Rattle.node_state.specs.declared.node_state.NodeState.{NodeState}
use Rattle.node_state.specs.Slices.{AllowsChannels, left_channels}
use Rattle.node_state.specs.StandsFor.{StandsFor, IsPrepared, IsRestarted, node_kind, node_wave_channels, node_channels, most_channels}
use Rattle.node_state.specs.Streams.{HasItsWave, samples_of, channels_of, no_inputs, restarted}
use Rattle.node_progress.specs.declared.run_model.RunModel.{RunModel}
use Rattle.node_progress.specs.Standing.{port_at, read_by, worked, HasReceivedBefore}
use Rattle.node_progress.specs.NodeStates.{first_of, wave_channels_of, IsNodeState}
use Rattle.node_progress.specs.working.Preparing.{IsMostNamed, wav_of, IsPreparedNode}
use Rattle.node_progress.specs.Restarts.{restart_of}
use Rattle.node_progress.proofs.FitsOutputLemmas.{wave_found}
use Rattle.node_progress.proofs.FrameLemmas.{own_cycles, worked_is, few_cycles}
use Rattle.node_progress.proofs.FreshLemmas.{named_of, restart_is, named_allowed}
use Rattle.node_progress.proofs.IdleLemmas.{alike}
use Rattle.node_progress.proofs.RestartsLemmas.{restarted_read}

-- THE GREATEST CHANNELS

-- of the epochs before i
abbrev pub IsMostBefore : Plan → ℕ → ℕ → ℕ → Type 0
IsMostBefore plan i n most = ((k channels : ℕ) → k < i → Names plan k n channels → channels ≤ most)
    × ((most ≡ 0) ⊎ ((k : ℕ) × Names plan k n most))

pub none_before : (plan : Plan) (n : ℕ) → IsMostBefore plan 0 n 0
none_before plan n = (λ k channels low named. absurd (omega (arith, low)), inl refl)

one_of_two : (a b : ℕ) → (max a b ≡ a) ⊎ (max a b ≡ b)
one_of_two a b = ⊎_elim (λ (low : a < b). inr (omega (arith, low))) (λ (high : b ≤ a). inl (omega (arith, high))) (cases_lt a b)

pub most_more : (plan : Plan) → IsSoundPlan plan → (i n most : ℕ) → IsMostBefore plan i n most
    → IsMostBefore plan (i + 1) n (max most (unwrap_or (restart_of plan i n) 0))
most_more plan sound i n most before = (bound, named (restart_of plan i n) refl)
  where
    bound : (k channels : ℕ) → k < i + 1 → Names plan k n channels → channels ≤ max most (unwrap_or (restart_of plan i n) 0)
    bound k channels low is = ⊎_elim
        (λ (early : k < i). let old = before.0 k channels early is in let m = le-max_left most (unwrap_or (restart_of plan i n) 0) in
        omega (arith, old, m))
        (λ (last : i ≤ k). let at : k ≡ i = omega (arith, last, low) in
        let own : unwrap_or (restart_of plan i n) 0 ≡ channels =
        ap (λ o. unwrap_or o 0) (restart_is plan sound i n channels (subst (λ j. Names plan j n channels) at is)) in
        let m = le-max_right most (unwrap_or (restart_of plan i n) 0) in omega (arith, own, m))
        (cases_lt k i)

    named : (o : Option ℕ) → restart_of plan i n ≡ o
        → (max most (unwrap_or (restart_of plan i n) 0) ≡ 0) ⊎ ((k : ℕ) × Names plan k n (max most (unwrap_or (restart_of plan i n) 0)))
    named None is = let same : max most (unwrap_or (restart_of plan i n) 0) ≡ most =
        ap (λ o. max most (unwrap_or o 0)) is ∙ omega arith in
        subst (λ m. (m ≡ 0) ⊎ ((k : ℕ) × Names plan k n m)) (sym same) before.1
    named (Some channels) is = let same : max most (unwrap_or (restart_of plan i n) 0) ≡ max most channels =
        ap (λ o. max most (unwrap_or o 0)) is in
        subst (λ m. (m ≡ 0) ⊎ ((k : ℕ) × Names plan k n m)) (sym same)
        (⊎_elim
        (λ (old : max most channels ≡ most). subst (λ m. (m ≡ 0) ⊎ ((k : ℕ) × Names plan k n m)) (sym old) before.1)
        (λ (new : max most channels ≡ channels). subst (λ m. (m ≡ 0) ⊎ ((k : ℕ) × Names plan k n m)) (sym new)
        (inr (i, named_of plan i n channels is)))
        (one_of_two most channels))

pub most_of_all : (plan : Plan) (i n most : ℕ) → length plan.epochs ≤ i → IsMostBefore plan i n most → IsMostNamed plan n most
most_of_all plan i n most all before = record {
  bound = λ k channels named. before.0 k channels (let low = slice_get_within plan.epochs k named.epoch named.at in omega (arith, all, low)) named;
  named = before.1;
}

pub most_allowed : (plan : Plan) → IsSoundPlan plan → (n most : ℕ) → IsMostNamed plan n most → AllowsChannels (kind_at plan n) most
most_allowed plan sound n most is = ⊎_elim (λ (none : most ≡ 0). inl none)
    (λ (named : (k : ℕ) × Names plan k n most). named_allowed plan sound named.0 n most named.1) is.named

-- THE QUANTUM AND THE FRAMES

pub quantum_within : (plan : Plan) → IsSoundPlan plan → 0 < length plan.epochs → IsBetween 1 8192 plan.quantum
quantum_within plan sound some = by plan.epochs sound.epochs some
  where
    by : (es : List Epoch) → All (IsSoundEpoch plan) es → 0 < length es → IsBetween 1 8192 plan.quantum
    by [] all low = absurd (omega (arith, low))
    by (e ∷ es) all low = let h = All-head (IsSoundEpoch plan) e es all in subst (IsBetween 1 8192) h.quantum h.shape.sound.cycles.quantum

few_worked : (plan : Plan) → IsSoundPlan plan → (n : ℕ) → worked plan n (all_cycles plan) ≤ 4194304
few_worked plan sound n = let is = worked_is plan sound n in let few = few_cycles n plan.epochs in let events = sound.events in
    omega (arith, is, few, events)

pub frames_are : (plan : Plan) → IsSoundPlan plan → (n q : ℕ) → (0 < length plan.epochs → q ≡ plan.quantum)
    → q * worked plan n (all_cycles plan) ≡ plan.quantum * worked plan n (all_cycles plan)
frames_are plan sound n q is = ⊎_elim
    (λ (some : 0 < length plan.epochs). ap (λ m. m * worked plan n (all_cycles plan)) (is some))
    (λ (none : length plan.epochs ≤ 0).
    let idle : worked plan n (all_cycles plan) ≡ 0 = sym (worked_is plan sound n) ∙ by plan.epochs none in
    ap (λ m. q * m) idle ∙ nothing_of q plan.quantum ∙ ap (λ m. plan.quantum * m) (sym idle))
    (cases_lt 0 (length plan.epochs))
  where
    by : (es : List Epoch) → length es ≤ 0 → sum_by (own_cycles n) es ≡ 0
    by [] low = omega arith
    by (e ∷ es) low = absurd (omega (arith, low))

    nothing_of : (q p : ℕ) → q * 0 ≡ p * 0
    nothing_of q p = omega arith

pub frames_few : (plan : Plan) → IsSoundPlan plan → (n q : ℕ) → q ≤ 8192 → q * worked plan n (all_cycles plan) ≤ 8192 * 4194304
frames_few plan sound n q low = mul-le-mul low (few_worked plan sound n)

-- THE WAVE

abbrev is_source : Kind → Bool
is_source Source = true
is_source _ = false

without : (kd : Kind) → is_source kd ≡ false → HasItsWave kd None
without Source off = absurd (true≢false off)
without (Square r c p a) off = tt
without (Gain g) off = tt
without (Mix2 x y) off = tt
without (Delay f) off = tt
without (Map c l) off = tt
without Split off = tt
without Sink off = tt
without Meter off = tt
without Dummy off = tt

source_is : (kd : Kind) → is_source kd ≡ true → kd ≡ Source
source_is Source on = refl
source_is _ on = absurd (true≢false (sym on))

-- no other node has a wave
no_wave : (plan : Plan) (waves : List WavIn) (n : ℕ) → All (IsWaveOfSource plan) waves → is_source (kind_at plan n) ≡ false
    → find (λ w. w.node == n) waves ≡ None
no_wave plan [] n all off = refl
no_wave plan (w ∷ ws) n all off = ⊎_elim
    (λ (on : (w.node == n) ≡ true).
    let source : kind_at plan n ≡ Source = subst (λ m. kind_at plan m ≡ Source) (eqb-true w.node n on)
    (All-head (IsWaveOfSource plan) w ws all).source in
    absurd (true≢false (sym (ap is_source source) ∙ off)))
    (λ (other : (w.node == n) ≡ false). rw other (no_wave plan ws n (All-tail (IsWaveOfSource plan) w ws all) off))
    (cases_Bool (w.node == n))

pub its_wave : (plan : Plan) (waves : List WavIn) (n : ℕ) → WavesFit plan waves → HasItsWave (kind_at plan n) (wav_of waves n)
its_wave plan waves n fit = ⊎_elim
    (λ (yes : is_source (kind_at plan n) ≡ true).
    let source = source_is (kind_at plan n) yes in
    let x = wave_found (IsWaveOfSource plan) waves n fit.sources (fit.one n source) in
    subst (λ (y : Kind × Option WavIn). HasItsWave y.0 (option_map (λ (w : WavIn). w.wav) y.1)) (λ i. (sym source i, sym x.3 i)) tt)
    (λ (no : is_source (kind_at plan n) ≡ false).
    subst (λ (o : Option WavIn). HasItsWave (kind_at plan n) (option_map (λ (w : WavIn). w.wav) o)) (sym (no_wave plan waves n fit.sources no))
    (without (kind_at plan n) no))
    (cases_Bool (is_source (kind_at plan n)))

wave_samples : (waves : List WavIn) (n : ℕ) → samples_of (wav_of waves n) ≡ wave_of waves n
wave_samples waves n = by (find (λ w. w.node == n) waves)
  where
    by : (o : Option WavIn) → samples_of (option_map (λ (w : WavIn). w.wav) o) ≡ unwrap_or (option_map (λ (w : WavIn). w.wav.samples) o) []
    by None = refl
    by (Some w) = refl

wave_channels : (waves : List WavIn) (n : ℕ) → channels_of (wav_of waves n) ≡ wave_channels_of waves n
wave_channels waves n = by (find (λ w. w.node == n) waves)
  where
    by : (o : Option WavIn) → channels_of (option_map (λ (w : WavIn). w.wav) o) ≡ unwrap_or (option_map (λ (w : WavIn). w.wav.channels) o) 0
    by None = refl
    by (Some w) = refl

-- PREPARED

-- what holds of a value that was answered, by four things that hold of it
pub answered : {X Y : Type 0} (r : Result X Y) (P Q R S T : X → Type 0) → ((x : X) → P x → Q x → R x → S x → T x)
    → IfOk r P → IfOk r Q → IfOk r R → IfOk r S → IfOk r T
answered (Ok x) P Q R S T all p q r s = all x p q r s
answered (Err y) P Q R S T all p q r s = tt

module _ (run_model : RunModel) (plan : Plan) (waves : List WavIn) (n : ℕ) (plan_is : run_model.plan.value ≡ plan) (waves_are : run_model.waves.value ≡ waves)
    (s : NodeState) where
  pub prepared_is : (kd : Kind) (wav : Option Wav) (most quantum frames : ℕ) → kd ≡ kind_at plan n → wav ≡ wav_of waves n
      → IsMostNamed plan n most → (0 < length plan.epochs → quantum ≡ plan.quantum)
      → frames ≡ plan.quantum * worked plan n (all_cycles plan)
      → node_kind s ≡ kd → node_wave_channels s ≡ channels_of wav → IsPrepared most quantum frames s
      → StandsFor s (no_inputs kd wav most) → IsPreparedNode run_model n s
  prepared_is kd wav most quantum frames kd_is wav_is most_is quantum_is frames_are kind wave numbers stands = record {
    kind = kind ∙ kd_is ∙ ap (λ (p : Plan). kind_at p n) (sym plan_is);
    wave = wave ∙ ap channels_of wav_is ∙ wave_channels waves n ∙ ap (λ ws. wave_channels_of ws n) (sym waves_are);
    quantum = λ some. numbers.2 ∙ quantum_is (subst (λ (p : Plan). 0 < length p.epochs) plan_is some) ∙ ap (λ (p : Plan). p.quantum) (sym plan_is);
    frames = numbers.3;
    prepared = numbers.4 ∙ frames_are ∙ ap (λ (p : Plan). p.quantum * worked p n (all_cycles p)) (sym plan_is);
    most = subst (λ (x : Plan × ℕ). IsMostNamed x.0 n x.1) (λ i. (sym plan_is i, sym numbers.1 i)) most_is;
    stands = subst (λ (h : KindInputs). StandsFor s h) read stands;
  }
    where
      samples : samples_of wav ≡ wave_of run_model.waves.value n
      samples = ap samples_of wav_is ∙ wave_samples waves n ∙ ap (λ ws. wave_of ws n) (sym waves_are)

      read : no_inputs kd wav most ≡ read_by run_model n s nothing
      read i = record {
        wave = samples i;
        frames = sym numbers.3 i;
        channels = left_channels (sym kind i) (sym wave i) (sym numbers.0 i);
        a = [];
        b = [];
      }

-- BEGUN by the first epoch

first_zero : (plan : Plan) → IsSoundPlan plan → first_of plan 0 ≡ 0
first_zero plan sound = by plan.epochs sound.follow
  where
    by : (es : List Epoch) → FollowFrom 0 es
        → unwrap_or (option_map (λ e. e.shape.first) (slice_get es 0)) (sum_by (λ e. e.shape.cycles) es) ≡ 0
    by [] h = omega arith
    by (e ∷ es) h = h.0

-- nothing is received before the first cycle
module _ (run_model : RunModel) (n : ℕ) (s : NodeState) (stands : StandsFor s (read_by run_model n s nothing)) where
  abbrev given : Outputs
  given = outputs run_model.plan.value run_model.waves.value

  abbrev has_input : ℕ → Bool
  has_input i = nat_lt i (input_count (kind_at run_model.plan.value n))

  none_yet : (i : ℕ) → [] ≡ cond (has_input i) (begun run_model.plan.value given 0 (port_at n i)) []
  none_yet i = sym (ap (λ l. cond (has_input i) l []) (begun_first run_model.plan.value given (port_at n i))
      ∙ cond_both (has_input i) [] [] (λ l. l ≡ []) (λ t. refl) (λ f. refl))

  before_first : HasReceivedBefore run_model 0 n s
  before_first = alike run_model n s nothing (received_before run_model.plan.value given 0 n) (none_yet 0) (none_yet 1) stands

none_worked : (q : ℕ) (plan : Plan) (n : ℕ) → 0 ≡ q * worked plan n 0
none_worked q plan n = omega arith

module _ (run_model : RunModel) (sound : IsSoundPlan run_model.plan.value) (n : ℕ) (s : NodeState) (u : IsPreparedNode run_model n s) where
  abbrev plan : Plan
  plan = run_model.plan.value

  pub begun_none : restart_of plan 0 n ≡ None → IsNodeState run_model 0 0 n s
  begun_none none = record {
    kind = u.kind;
    wave = u.wave;
    quantum = u.quantum;
    frames = u.frames ∙ none_worked plan.quantum plan n;
    prepared = u.prepared;
    most = u.most.bound;
    channels = λ j channels low named from some. let at : j ≡ 0 = omega (arith, low) in
        absurd (none-some channels (sym none ∙ restart_is plan sound 0 n channels (subst (λ k. Names plan k n channels) at named)));
    begun = λ is. before_first run_model n s u.stands;
    done = λ other. absurd (other (sym (first_zero plan sound)));
  }

  module _ (channels : ℕ) (is : restart_of plan 0 n ≡ Some channels) where
    named : Names plan 0 n channels
    named = named_of plan 0 n channels is

    pub first_allowed : AllowsChannels (node_kind s) channels
    first_allowed = subst (λ kd. AllowsChannels kd channels) (sym u.kind) (named_allowed plan sound 0 n channels named)

    pub first_room : channels ≤ most_channels s
    first_room = u.most.bound 0 channels named

    pub begun_anew : (t : NodeState) → ((h : KindInputs) → StandsFor s h → StandsFor t (restarted (node_kind s) channels h))
        → (0 < input_count (node_kind s) → node_channels t ≡ channels) → IsRestarted s t → IsNodeState run_model 0 0 n t
    begun_anew t stands anew same = record {
      kind = same.0 ∙ u.kind;
      wave = same.1 ∙ u.wave;
      quantum = λ some. same.3 ∙ u.quantum some;
      frames = same.5 ∙ u.frames ∙ none_worked plan.quantum plan n;
      prepared = same.6 ∙ u.prepared;
      most = λ j m other. subst (λ x. m ≤ x) (sym same.4) (u.most.bound j m other);
      channels = λ j m low other from some. let at : j ≡ 0 = omega (arith, low) in
          anew (subst (λ kd. 0 < input_count kd) (sym u.kind) some)
          ∙ same_Some channels m (sym is ∙ restart_is plan sound 0 n m (subst (λ k. Names plan k n m) at other));
      begun = λ first. before_first run_model n t (subst (λ (h : KindInputs). StandsFor t h) (restarted_read run_model n s t nothing channels anew same)
          (stands (read_by run_model n s nothing) u.stands));
      done = λ other. absurd (other (sym (first_zero plan sound)));
    }
