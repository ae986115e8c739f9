-- What a sink of a sound plan keeps can be written: its rate and channels are in range, and it has whole frames, not too many.
use Rattle.std.proofs.Common.{◌≡◌, ◌⊎◌, inl, inr, ℕ, zero, suc, ◌+◌, ◌-◌, ◌*◌, ◌%◌, ◌<◌, ◌≤◌, Bool, true, false, ◌==◌, ◌&&◌, nat_le, nat_lt}
use Rattle.std.proofs.Common.{ℤ, List, [], ◌∷◌, ◌++◌, length, filter, filter_map, find, All, Option, Some, None, slice_get, option_map}
use Rattle.std.proofs.Common.{unwrap_or, sum_by, refl, ap, ap₂, sym, ◌∙◌, subst, arith, ⊎_elim}
use Rattle.std.specs.Prelude.{Contains}
use Rattle.std.specs.List.{range_with_len, enumerate_from, cons_option}
use Rattle.std.proofs.Math.Nat.{mul-mod_left}
use Rattle.std.proofs.lemmas.Option.{same_Some, none-some, slice_get_within, get_or_from_slice_get}
use Rattle.std.proofs.lemmas.List.Concat.{length-flat_map}
use Rattle.std.proofs.lemmas.List.Sums.{sum_by-cons, sum_by-append, sum_by-le-sum_by}
use Rattle.std.proofs.lemmas.List.Elements.{All-cons, All-nil}
use Rattle.std.proofs.lemmas.Bool.{cases_Bool, false≢true, and_parts, and_from, and_right, cond-true, cond-false, le-leb, lt-ltb, le-ltb, ltb-true}
use Rattle.pw_graph.specs.declared.ids.PortId.{PortId}
use Rattle.pw_graph.specs.declared.kind.Kind.{Kind}
use Rattle.pw_graph.specs.declared.kind.Kind.TheVariants.{Sink, Dummy}
use Rattle.pw_graph.specs.declared.plan.Epoch.{Epoch}
use Rattle.pw_graph.specs.declared.plan.Plan.{Plan}
use Rattle.pw_graph.specs.declared.plan.PlanNode.{PlanNode}
use Rattle.pw_graph.specs.declared.plan.PortForm.{PortForm}
use Rattle.pw_graph.specs.KindRanges.{IsRate, IsChannels, IsSinkOrMeter}
use Rattle.pw_graph.specs.PlanForms.{kind_at}
use Rattle.pw_graph.specs.PlanSums.{is_sink, form_samples, epoch_samples, sink_samples_of}
use Rattle.pw_graph.specs.Pools.{is_same_port}
use Rattle.pw_graph.specs.SoundPlan.{FollowFrom, IsSoundNode, IsSoundPlan}
use Rattle.pw_graph.proofs.PoolLemmas.{same_port}
use Rattle.wav_files.specs.declared.wav.WavIn.{WavIn}
use Rattle.wav_files.specs.declared.outcome.Kept.{Kept}
use Rattle.wav_files.specs.WavWriting.{IsWave}
use Rattle.cycle_model.specs.Epochs.{is_within, epoch_at, is_active, channels_of, active_cycles, stream_start, all_cycles}
use Rattle.cycle_model.specs.Cycle.{input_of, stream_of, outputs}
use Rattle.cycle_model.specs.Rendering.{end_stream, kept_of, rendered_sinks}
use Rattle.cycle_model.specs.WavesFit.{WavesFit}
use Rattle.cycle_model.proofs.EpochLemmas.{of_epoch}
use Rattle.cycle_model.proofs.FullRowLemmas.{formed_inputs}
use Rattle.cycle_model.proofs.ProgressLemmas.{start_le}
use Rattle.cycle_model.proofs.SoundFormLemmas.{sound_at, sound_is_formed}
use Rattle.cycle_model.proofs.SoundPlanLemmas.{sound_is_renderable}

-- SUMS over cycles

pub range_split : (a m n : ℕ) → range_with_len a (m + n) ≡ range_with_len a m ++ range_with_len (a + m) n
range_split a zero n = let first : a ≡ a + zero = omega arith in let many : zero + n ≡ n = omega arith in ap₂ range_with_len first many
range_split a (suc m) n =
    let many : suc m + n ≡ suc (m + n) = omega arith in
    let first : (a + 1) + m ≡ a + suc m = omega arith in
    ap (range_with_len a) many
    ∙ ap (λ r. a ∷ r) (range_split (a + 1) m n ∙ ap (λ b. range_with_len (a + 1) m ++ range_with_len b n) first)

sum_const : (g : ℕ → ℕ) (v a n : ℕ) → ((k : ℕ) → a ≤ k → k < a + n → g k ≡ v) → sum_by g (range_with_len a n) ≡ n * v
sum_const g v a zero h = omega arith
sum_const g v a (suc n) h =
    let here : g a ≡ v = h a (omega arith) (omega arith) in
    let rest = sum_const g v (a + 1) n (λ k low high. h k (omega (arith, low)) (omega (arith, high))) in
    omega (arith, here, rest, sum_by-cons g a (range_with_len (a + 1) n))

sum_agree : (f g : ℕ → ℕ) (a n : ℕ) → ((k : ℕ) → a ≤ k → f k ≡ g k) → sum_by f (range_with_len a n) ≡ sum_by g (range_with_len a n)
sum_agree f g a zero h = refl
sum_agree f g a (suc n) h =
    let here : f a ≡ g a = h a (omega arith) in
    let rest = sum_agree f g (a + 1) n (λ k low. h k (omega (arith, low))) in
    omega (arith, here, rest, sum_by-cons f a (range_with_len (a + 1) n), sum_by-cons g a (range_with_len (a + 1) n))

-- those that pass add up to no more than all
sum_passing : (f g : ℕ → ℕ) (p : ℕ → Bool) (a n : ℕ) → ((k : ℕ) → p k ≡ true → f k ≡ g k)
    → sum_by f (filter p (range_with_len a n)) ≤ sum_by g (range_with_len a n)
sum_passing f g p a zero h = omega arith
sum_passing f g p a (suc n) h =
    let rest : sum_by f (filter p (range_with_len (a + 1) n)) ≤ sum_by g (range_with_len (a + 1) n) = sum_passing f g p (a + 1) n h in
    let whole = sum_by-cons g a (range_with_len (a + 1) n) in
    ⊎_elim
    (λ (t : p a ≡ true).
    let parts = sum_by-cons f a (filter p (range_with_len (a + 1) n)) in
    let here = h a t in
    rw t (omega (arith, rest, whole, parts, here)))
    (λ (s : p a ≡ false). rw s (omega (arith, rest, whole)))
    (cases_Bool (p a))

-- multiples add up to one
sum_multiple : (f : ℕ → ℕ) (d : ℕ) (p : ℕ → Bool) (a n : ℕ) → ((k : ℕ) → p k ≡ true → (m : ℕ) × (f k ≡ m * d))
    → (m : ℕ) × (sum_by f (filter p (range_with_len a n)) ≡ m * d)
sum_multiple f d p a zero h = (0, omega arith)
sum_multiple f d p a (suc n) h =
    let rest = sum_multiple f d p (a + 1) n h in
    ⊎_elim
    (λ (t : p a ≡ true).
    let here = h a t in
    let parts = sum_by-cons f a (filter p (range_with_len (a + 1) n)) in
    rw t (here.0 + rest.0, omega (arith, here.1, rest.1, parts)))
    (λ (s : p a ≡ false). rw s rest)
    (cases_Bool (p a))

-- what the epoch of a cycle has, if it lies in one
abbrev each : (Epoch → ℕ) → Option Epoch → ℕ
each w None = 0
each w (Some e) = w e

above : (a b : ℕ) → a ≤ b → nat_lt b a ≡ false
above a b h = le-ltb b a h

-- over the cycles of epochs that follow one another: of each epoch, its cycles times what it has
sum_epochs : (w : Epoch → ℕ) (f : ℕ) (es : List Epoch) → FollowFrom f es
    → sum_by (λ k. each w (find (λ e. is_within e k) es)) (range_with_len f (sum_by (λ e. e.shape.cycles) es))
    ≡ sum_by (λ e. e.shape.cycles * w e) es
sum_epochs w f [] h = refl
sum_epochs w f (x ∷ xs) h =
    let n = sum_by (λ e. e.shape.cycles) xs in
    let g : ℕ → ℕ = λ k. each w (find (λ e. is_within e k) (x ∷ xs)) in
    let rest : ℕ → ℕ = λ k. each w (find (λ e. is_within e k) xs) in
    let here : (k : ℕ) → f ≤ k → k < f + x.shape.cycles → g k ≡ w x = λ k low high.
    ap (each w) (cond-true (is_within x k) (Some x) (find (λ e. is_within e k) xs)
    (and_from _ _ (le-leb x.shape.first k (omega (arith, low, h.0))) (lt-ltb k (x.shape.first + x.shape.cycles) (omega (arith, high, h.0))))) in
    let past : (k : ℕ) → f + x.shape.cycles ≤ k → g k ≡ rest k = λ k low.
    ap (each w) (cond-false (is_within x k) (Some x) (find (λ e. is_within e k) xs)
    (and_right (nat_le x.shape.first k) (nat_lt k (x.shape.first + x.shape.cycles))
    (above (x.shape.first + x.shape.cycles) k (omega (arith, low, h.0))))) in
    let first = sum_const g (w x) f x.shape.cycles here in
    let others = sum_agree g rest (f + x.shape.cycles) n past ∙ sum_epochs w (f + x.shape.cycles) xs h.1 in
    ap (λ m. sum_by g (range_with_len f m)) (sum_by-cons (λ e. e.shape.cycles) x xs)
    ∙ ap (sum_by g) (range_split f x.shape.cycles n)
    ∙ sum_by-append g (range_with_len f x.shape.cycles) (range_with_len (f + x.shape.cycles) n)
    ∙ ap₂ (λ a b. a + b) first others
    ∙ sym (sum_by-cons (λ e. e.shape.cycles * w e) x xs)

-- a sink's part of an epoch's samples
one_form : (plan : Plan) (e : Epoch) (port : PortId) (forms : List PortForm) → is_sink (kind_at plan port.node) ≡ true
    → e.shape.cycles * (plan.quantum * channels_of forms port)
    ≤ sum_by (form_samples plan e) (filter (λ f. is_sink (kind_at plan f.port.node)) forms)
one_form plan e port [] sink = omega arith
one_form plan e port (f ∷ fs) sink =
    let sinks = filter (λ g. is_sink (kind_at plan g.port.node)) fs in
    let rest = one_form plan e port fs sink in
    let parts = sum_by-cons (form_samples plan e) f sinks in
    ⊎_elim
    (λ (t : is_same_port f.port port ≡ true).
    let here : is_sink (kind_at plan f.port.node) ≡ true =
    ap (λ (p : PortId). is_sink (kind_at plan p.node)) (same_port f.port port t) ∙ sink in
    rw (t, here) (omega (arith, parts)))
    (λ (s : is_same_port f.port port ≡ false). ⊎_elim
    (λ (t : is_sink (kind_at plan f.port.node) ≡ true). rw (s, t) (omega (arith, rest, parts)))
    (λ (n : is_sink (kind_at plan f.port.node) ≡ false). rw (s, n) rest)
    (cases_Bool (is_sink (kind_at plan f.port.node))))
    (cases_Bool (is_same_port f.port port))

-- the channels of a port are 0, or those of a form of it
channels_cases : (forms : List PortForm) (port : PortId) → (channels_of forms port ≡ 0)
    ⊎ ((rate : ℕ) × Contains forms (record { port = port; rate = rate; channels = channels_of forms port }))
channels_cases [] port = inl refl
channels_cases (f ∷ fs) port = ⊎_elim
    (λ (t : is_same_port f.port port ≡ true). rw t (inr (f.rate, (0, omega arith, form_is f port (same_port f.port port t)))))
    (λ (s : is_same_port f.port port ≡ false). rw s (⊎_elim (λ none. inl none) (λ some. inr (some.0, behind some.1)) (channels_cases fs port)))
    (cases_Bool (is_same_port f.port port))
  where
    form_is : (g : PortForm) (p : PortId) → g.port ≡ p → g ≡ record { port = p; rate = g.rate; channels = g.channels }
    form_is g p e = λ i. record { port = e i; rate = g.rate; channels = g.channels }

    behind : {x : PortForm} → Contains fs x → Contains (f ∷ fs) x
    behind w = let at = w.1 in (suc w.0, omega (arith, at), w.2)

-- THE STREAM of a sink

module _ (plan : Plan) (waves : List WavIn) (sound : IsSoundPlan plan) (fit : WavesFit plan waves) (node : PlanNode) (i : ℕ)
    (there : slice_get plan.nodes i ≡ Some node) (sink : is_sink node.kind ≡ true) where
  abbrev port : PortId
  port = record { node = i; port = 0 }

  abbrev samples : Epoch → ℕ
  samples e = plan.quantum * channels_of e.forms port

  abbrev input : ℕ → ℕ
  input k = length (input_of plan (outputs plan waves) k port)

  kind_is : kind_at plan i ≡ node.kind
  kind_is = ap (λ o. unwrap_or (option_map (λ n. n.kind) o) Dummy) there

  -- what is received in a cycle in which it is active
  input_is : (k : ℕ) → is_active plan k i ≡ true → (e : Epoch) × (epoch_at plan k ≡ Some e) × (input k ≡ samples e)
  input_is k active =
      let at = of_epoch (epoch_at plan k) i active in
      (at.0, at.1, formed_inputs plan waves (sound_is_renderable plan waves sound fit) (sound_is_formed plan sound) k at.0 port at.1)

  is_the_sink : (k : Kind) → is_sink k ≡ true → k ≡ Sink
  is_the_sink Sink h = refl
  is_the_sink _ h = absurd (false≢true h)

  -- whole frames, in its node's channels
  input_whole : (k : ℕ) → is_active plan k i ≡ true → (m : ℕ) × (input k ≡ m * node.channels)
  input_whole k active =
      let w = input_is k active in
      let e = w.0 in
      let is = w.2 in
      ⊎_elim
      (λ (none : channels_of e.forms port ≡ 0). let zero_of = ap (λ n. plan.quantum * n) none in (0, omega (arith, is, zero_of)))
      (λ (some : (rate : ℕ) × Contains e.forms (record { port = port; rate = rate; channels = channels_of e.forms port })).
      let ends = (sound_at plan sound k e w.1).ends port some.0 (channels_of e.forms port) node some.1 there (is_the_sink node.kind sink) in
      (plan.quantum, is ∙ ap (λ n. plan.quantum * n) ends.1))
      (channels_cases e.forms port)

  -- the stream up to a cycle
  stream_is : (c : ℕ) → length (stream_of plan (outputs plan waves) c port)
      ≡ sum_by input (active_cycles plan (stream_start plan c i) c i)
  stream_is c = length-flat_map (λ k. input_of plan (outputs plan waves) k port) (active_cycles plan (stream_start plan c i) c i)

  stream_whole : (c : ℕ) → (m : ℕ) × (length (stream_of plan (outputs plan waves) c port) ≡ m * node.channels)
  stream_whole c =
      let start = stream_start plan c i in
      let w = sum_multiple input node.channels (λ k. is_active plan k i) start (c + 1 - start) input_whole in
      (w.0, stream_is c ∙ w.1)

  stream_small : (c : ℕ) → c + 1 ≡ all_cycles plan → length (stream_of plan (outputs plan waves) c port) ≤ sink_samples_of plan
  stream_small c last =
      let start = stream_start plan c i in
      let low = start_le plan c i in
      let g : ℕ → ℕ = λ k. each samples (epoch_at plan k) in
      let same : (k : ℕ) → is_active plan k i ≡ true → input k ≡ g k = λ k active.
      let w = input_is k active in w.2 ∙ sym (ap (each samples) w.1) in
      let passing = sum_passing input g (λ k. is_active plan k i) start (c + 1 - start) same in
      let all : start + (c + 1 - start) ≡ all_cycles plan = omega (arith, low, last) in
      let none : 0 + start ≡ start = omega arith in
      let parts = ap (λ n. sum_by g (range_with_len 0 n)) (sym all) ∙ ap (sum_by g) (range_split 0 start (c + 1 - start))
      ∙ sum_by-append g (range_with_len 0 start) (range_with_len (0 + start) (c + 1 - start))
      ∙ ap (λ a. sum_by g (range_with_len 0 start) + sum_by g (range_with_len a (c + 1 - start))) none in
      let whole = sum_epochs samples 0 plan.epochs sound.follow in
      let each_epoch = sum_by-le-sum_by (λ e. e.shape.cycles * samples e) (epoch_samples plan) plan.epochs
      (λ e. one_form plan e port e.forms (ap is_sink kind_is ∙ sink)) in
      omega (arith, stream_is c, passing, parts, whole, each_epoch)

  -- at the end
  end_cases : (P : List ℤ → Type 0) → P [] → ((c : ℕ) → c + 1 ≡ all_cycles plan → P (stream_of plan (outputs plan waves) c port))
      → P (end_stream plan waves i)
  end_cases P none some = ⊎_elim
      (λ (t : (all_cycles plan == 0) ≡ true). rw t none)
      (λ (s : (all_cycles plan == 0) ≡ false).
      let positive : 0 < all_cycles plan = grind (arith, s) in
      rw s (some (all_cycles plan - 1) (omega (arith, positive))))
      (cases_Bool (all_cycles plan == 0))

  -- what is kept can be written
  stream_wave : IsRate node.rate → IsChannels node.channels
      → IsWave (record { rate = node.rate; channels = node.channels; samples = end_stream plan waves i })
  stream_wave rate channels = record {
    rate = rate;
    channels = channels;
    whole = end_cases (λ s. length s % node.channels ≡ 0) (whole_is 0 (0, omega arith)) (λ c last. whole_is _ (stream_whole c));
    small = end_cases (λ s. length s ≤ 134217728) (omega arith) (λ c last. let most = stream_small c last in
        let limit = sound.samples in omega (arith, most, limit));
  } where
    whole_is : (n : ℕ) → ((m : ℕ) × (n ≡ m * node.channels)) → n % node.channels ≡ 0
    whole_is n w = ap (λ k. k % node.channels) w.1 ∙ mul-mod_left w.0 node.channels

-- ALL that is kept

all_cons_option : {Y : Type 0} (P : Y → Type 0) (o : Option Y) (ys : List Y) → ((y : Y) → o ≡ Some y → P y) → All P ys → All P (cons_option o ys)
all_cons_option P None ys h all = all
all_cons_option P (Some y) ys h all = All-cons P y ys (h y refl) all

all_kept : {X Y : Type 0} (P : Y → Type 0) (h : ℕ × X → Option Y) (a : ℕ) (xs : List X)
    → ((i : ℕ) (x : X) (y : Y) → slice_get xs i ≡ Some x → h (a + i, x) ≡ Some y → P y) → All P (filter_map h (enumerate_from a xs))
all_kept P h a [] each = All-nil P
all_kept {X} {Y} P h a (x ∷ xs) each =
    let first : a + 0 ≡ a = omega arith in
    all_cons_option P (h (a, x)) (filter_map h (enumerate_from (a + 1) xs))
    (λ y e. each 0 x y refl (ap (λ k. h (k, x)) first ∙ e))
    (all_kept P h (a + 1) xs (λ i z y at e.
    let next : a + suc i ≡ (a + 1) + i = omega arith in
    each (suc i) z y at (ap (λ k. h (k, z)) next ∙ e)))

node_at : (P : PlanNode → Type 0) (nodes : List PlanNode) (i : ℕ) (node : PlanNode) → All P nodes → slice_get nodes i ≡ Some node → P node
node_at P nodes i node all at = subst P (get_or_from_slice_get nodes i node node at) (all i node (slice_get_within nodes i node at))

positive : (rate : ℕ) → nat_lt 0 rate ≡ true → rate ≡ 0 → ⊥
positive rate t z = let low = ltb-true 0 rate t in omega (arith, low, z)

node_kept : (plan : Plan) (waves : List WavIn) → IsSoundPlan plan → WavesFit plan waves → (i : ℕ) (node : PlanNode) (kept : Kept)
    → slice_get plan.nodes i ≡ Some node → kept_of plan waves (0 + i, node) ≡ Some kept → IsWave kept.wav
node_kept plan waves sound fit i node kept at e = ⊎_elim
    (λ (t : (is_sink node.kind && nat_lt 0 node.rate) ≡ true).
    let parts = and_parts (is_sink node.kind) (nat_lt 0 node.rate) t in
    let place : 0 + i ≡ i = omega arith in
    let made : Kept = record {
      node = 0 + i;
      wav = record { rate = node.rate; channels = node.channels; samples = end_stream plan waves (0 + i) };
    } in
    let is : made ≡ kept = same_Some made kept (sym (cond-true (is_sink node.kind && nat_lt 0 node.rate) (Some made) None t) ∙ e) in
    subst (λ (k : Kept). IsWave k.wav) is
    (subst (λ n. IsWave (record { rate = node.rate; channels = node.channels; samples = end_stream plan waves n })) (sym place)
    (⊎_elim
    (λ (zeros : (node.rate ≡ 0) × (node.channels ≡ 0)). absurd (positive node.rate parts.1 zeros.0))
    (λ (ranges : IsSinkOrMeter node.kind × IsRate node.rate × IsChannels node.channels).
    stream_wave plan waves sound fit node i at parts.0 ranges.1 ranges.2)
    (node_at IsSoundNode plan.nodes i node sound.nodes at).kept)))
    (λ (s : (is_sink node.kind && nat_lt 0 node.rate) ≡ false). absurd (none-some kept (sym (cond-false
    (is_sink node.kind && nat_lt 0 node.rate) _ None s) ∙ e)))
    (cases_Bool (is_sink node.kind && nat_lt 0 node.rate))

-- KEPT WAVES can be written
pub kept_is_wave : (plan : Plan) (waves : List WavIn) → IsSoundPlan plan → WavesFit plan waves
    → All (λ kept. IsWave kept.wav) (rendered_sinks plan waves)
unfolding rendered_sinks
kept_is_wave plan waves sound fit =
    all_kept (λ (kept : Kept). IsWave kept.wav) (kept_of plan waves) 0 plan.nodes (node_kept plan waves sound fit)
