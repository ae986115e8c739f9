-- Laws of `specs/Expected.antt`: each row is one quantum in the channels of its pool, and all samples are of 16 bits.
use Rattle.std.proofs.Common.{◌≡◌, ◌⊎◌, inl, inr, ℕ, zero, suc, ◌+◌, ◌-◌, ◌*◌, ◌/◌, ◌%◌, ◌<◌, ◌≤◌, max, true, false, ◌==◌, nat_le, nat_lt}
use Rattle.std.proofs.Common.{List, [], ◌∷◌, map, length, get_or, filter, fold, find, flat_map, All, Option, Some, None, slice_get, ℤ}
use Rattle.std.proofs.Common.{option_map, unwrap_or, pos, refl, ap, sym, ◌∙◌, subst, arith, ⊎_elim, slice_index}
use Rattle.std.specs.Prelude.{neg_ℤ, ◌≤ℤ◌, ◌*ℤ◌, ◌+ℤ◌}
use Rattle.std.specs.Int.{int_shr}
use Rattle.std.specs.List.{range_with_len}
use Rattle.std.proofs.lemmas.Int.{ints, clamps}
use Rattle.std.proofs.lemmas.Option.{same_Some, none-some, slice_get-map, slice_get_within, get_or_from_slice_get}
use Rattle.std.proofs.lemmas.List.{get_or_default}
use Rattle.std.proofs.lemmas.List.FromFn.{get_or-map-range_with_len}
use Rattle.std.proofs.lemmas.List.Elements.{All-head, All-tail, All-cons, All-nil, All-append, All-filter, All-drop, filter_passes}
use Rattle.std.proofs.lemmas.Bool.{cases_Bool, and_from, and_right, cond-true, cond-false, cond_both, le-leb, lt-ltb, le-ltb}
use Rattle.pw_graph.specs.declared.ids.PortId.{PortId}
use Rattle.pw_graph.specs.declared.kind.Kind.{Kind}
use Rattle.pw_graph.specs.declared.kind.Kind.TheVariants.{Source, Square, Gain, Mix2, Delay, Map, Split, Sink, Meter, Dummy}
use Rattle.pw_graph.specs.declared.pools.PoolShape.{PoolShape}
use Rattle.pw_graph.specs.declared.shape.ShapeLink.{ShapeLink}
use Rattle.pw_graph.specs.declared.plan.Epoch.{Epoch}
use Rattle.pw_graph.specs.declared.plan.Plan.{Plan}
use Rattle.pw_graph.specs.declared.plan.PlanNode.{PlanNode}
use Rattle.pw_graph.specs.KindFunction.{KindInputs, kind_output, square_at}
use Rattle.pw_graph.specs.KindPorts.{input_count}
use Rattle.pw_graph.specs.KindRanges.{IsInRange}
use Rattle.pw_graph.specs.PlanForms.{kind_at}
use Rattle.pw_graph.specs.Pools.{is_same_port, is_before, with_port, sources_of, links_from, pool_of, pools_of}
use Rattle.pw_graph.specs.Pools as pools
use Rattle.pw_lists.specs.Samples.{clamped, summed, silence}
use Rattle.pw_graph.specs.SoundPlan.{FollowFrom, IsSoundEpoch, IsSoundPlan}
use Rattle.pw_graph.proofs.PoolLemmas.{same_port, port_same}
use Rattle.pw_graph.proofs.PrecedenceLemmas.{holds_at}
use Rattle.wav_files.specs.declared.wav.WavIn.{WavIn}
use Rattle.cycle_model.specs.Epochs.{is_within, epoch_at, listed, links_into, channels_of, channels_at, active_cycles, stream_start, all_cycles}
use Rattle.cycle_model.specs.Cycle.{Outputs, wave_of, brought, input_of, stream_of, kind_inputs_at, output_of, outputs_after, outputs}
use Rattle.cycle_model.specs.KindSamples.{kind_sample, kind_length}
use Rattle.cycle_model.specs.Mixing.{takes_part}
use Rattle.cycle_model.specs.Progress.{IsOutputOf}
use Rattle.cycle_model.specs.WavesFit.{WavesFit}
use Rattle.cycle_model.specs.Expected.{epoch_rows, expected_samples, IsShort, AreShort}
use Rattle.cycle_model.proofs.CycleLemmas.{active_in}
use Rattle.cycle_model.proofs.KindLemmas.{kind_rows}
use Rattle.cycle_model.proofs.SingleEpochLemmas.{takes}
use Rattle.cycle_model.proofs.SoundFormLemmas.{rows_are_full}
use Rattle.cycle_model.proofs.SoundPlanLemmas.{channels_are}

-- ROWS of one quantum

-- where an active node has an output with a form, it gives a quantum in its channels
pub outputs_long : (plan : Plan) (waves : List WavIn) → IsSoundPlan plan → WavesFit plan waves → (c : ℕ) (e : Epoch) (port : PortId)
    → epoch_at plan c ≡ Some e → takes_part e port.node ≡ true → IsOutputOf plan port
    → length (outputs plan waves c port) ≡ plan.quantum * channels_of e.forms port
outputs_long plan waves sound fit c e port at part is_out =
    rows_are_full plan waves sound fit c port (active_in plan c e port.node at ∙ part) is_out
    ∙ ap (λ n. plan.quantum * n) (ap (λ o. channels_of (listed (λ e. e.forms) o) port) at)

-- an epoch begins at or after the one from which they follow
begins : (f : ℕ) (es : List Epoch) (k : ℕ) (e : Epoch) → FollowFrom f es → slice_get es k ≡ Some e → f ≤ e.shape.first
begins f [] k e h at = absurd (none-some e at)
begins f (x ∷ xs) zero e h at = let is = ap (λ (y : Epoch). y.shape.first) (same_Some x e at) in omega (arith, h.0, is)
begins f (x ∷ xs) (suc k) e h at = let more = begins (f + x.shape.cycles) xs k e h.1 at in omega (arith, more)

-- a cycle lies in no epoch but its own
lies_in : (f : ℕ) (es : List Epoch) (k : ℕ) (e : Epoch) (c : ℕ) → FollowFrom f es → slice_get es k ≡ Some e → e.shape.first ≤ c
    → c < e.shape.first + e.shape.cycles → find (λ x. is_within x c) es ≡ Some e
lies_in f [] k e c h at low high = absurd (none-some e at)
lies_in f (x ∷ xs) zero e c h at low high =
    let same : x ≡ e = same_Some x e at in
    let first = ap (λ (y : Epoch). y.shape.first) same in
    let cycles = ap (λ (y : Epoch). y.shape.cycles) same in
    cond-true (is_within x c) (Some x) (find (λ y. is_within y c) xs)
    (and_from _ _ (le-leb x.shape.first c (omega (arith, low, first)))
    (lt-ltb c (x.shape.first + x.shape.cycles) (omega (arith, high, first, cycles))))
    ∙ at
lies_in f (x ∷ xs) (suc k) e c h at low high =
    let after = begins (f + x.shape.cycles) xs k e h.1 at in
    cond-false (is_within x c) (Some x) (find (λ y. is_within y c) xs)
    (and_right (nat_le x.shape.first c) (nat_lt c (x.shape.first + x.shape.cycles))
    (le-ltb c (x.shape.first + x.shape.cycles) (omega (arith, after, low, h.0))))
    ∙ lies_in (f + x.shape.cycles) xs k e c h.1 at low high

pub cycle_in : (plan : Plan) → IsSoundPlan plan → (k : ℕ) (e : Epoch) (c : ℕ) → slice_get plan.epochs k ≡ Some e → c < e.shape.cycles
    → epoch_at plan (e.shape.first + c) ≡ Some e
cycle_in plan sound k e c at lt = lies_in 0 plan.epochs k e (e.shape.first + c) sound.follow at (omega arith) (omega (arith, lt))

-- THE PORT of a pool

fold_stays : (n : ℕ) (ls : List ShapeLink) → All (λ l. l.channels ≡ n) ls → fold (λ top l. max top l.channels) n ls ≡ n
fold_stays n [] all = refl
fold_stays n (l ∷ ls) all =
    let here : l.channels ≡ n = All-head (λ (x : ShapeLink). x.channels ≡ n) l ls all in
    let top : max n l.channels ≡ n = omega (arith, here) in
    ap (λ m. fold (λ top (x : ShapeLink). max top x.channels) m ls) top ∙ fold_stays n ls (All-tail (λ (x : ShapeLink). x.channels ≡ n) l ls all)

-- the most of what all have
fold_most : (n : ℕ) (ls : List ShapeLink) → 0 < length ls → All (λ l. l.channels ≡ n) ls → fold (λ top l. max top l.channels) 0 ls ≡ n
fold_most n [] some all = absurd (omega (arith, some))
fold_most n (l ∷ ls) some all =
    let here : l.channels ≡ n = All-head (λ (x : ShapeLink). x.channels ≡ n) l ls all in
    let top : max 0 l.channels ≡ n = omega (arith, here) in
    ap (λ m. fold (λ top (x : ShapeLink). max top x.channels) m ls) top ∙ fold_stays n ls (All-tail (λ (x : ShapeLink). x.channels ≡ n) l ls all)

-- what holds of where each link begins holds of all such ports
sources_have : (P : PortId → Type 0) (ports : List PortId) (ls : List ShapeLink) → All P ports → All (λ l. P l.from) ls
    → All P (fold (λ ps l. with_port ps l.from) ports ls)
sources_have P ports [] h each = h
sources_have P ports (l ∷ ls) h each =
    let here : P l.from = All-head (λ (m : ShapeLink). P m.from) l ls each in
    let after = All-cons P l.from (filter (λ q. is_before l.from q) ports) here (All-filter (λ q. is_before l.from q) P ports h) in
    sources_have P (with_port ports l.from) ls
    (All-append P (filter (λ q. is_before q l.from) ports) (l.from ∷ filter (λ q. is_before l.from q) ports)
    (All-filter (λ q. is_before q l.from) P ports h) after)
    (All-tail (λ (m : ShapeLink). P m.from) l ls each)

-- the port of a pool is an output of an active node, and has the channels of its form
pub record IsPoolPort (plan : Plan) (e : Epoch) (port : PortId) : Type 0 where
  pub part : takes_part e port.node ≡ true
  pub output : IsOutputOf plan port
  pub channels : pools.channels_of e.shape port ≡ channels_of e.forms port

link_port : (plan : Plan) (e : Epoch) → IsSoundEpoch plan e → All (λ l. IsPoolPort plan e l.from) e.shape.links
link_port plan e h k d lt =
    let l : ShapeLink = get_or e.shape.links k d in
    let channels : All (λ (m : ShapeLink). m.channels ≡ channels_of e.forms m.from) e.shape.links = λ i c less.
    let m : ShapeLink = get_or e.shape.links i c in
    let f = h.forms.links i c less in
    sym (channels_are e.forms m.from f.rate m.channels h.forms.ascend f.from) in
    let own : All (λ (m : ShapeLink). is_same_port m.from l.from ≡ true) (links_from e.shape l.from) = λ i c less.
    filter_passes (λ (m : ShapeLink). is_same_port m.from l.from) e.shape.links i c less in
    let same : All (λ (m : ShapeLink). m.channels ≡ channels_of e.forms l.from) (links_from e.shape l.from) = λ i c less.
    All-filter (λ (m : ShapeLink). is_same_port m.from l.from) (λ (m : ShapeLink). m.channels ≡ channels_of e.forms m.from) e.shape.links channels
    i c less
    ∙ ap (channels_of e.forms) (same_port (get_or (links_from e.shape l.from) i c).from l.from (own i c less)) in
    let at = holds_at (λ (m : ShapeLink). is_same_port m.from l.from) e.shape.links l k (port_same l.from l.from refl) lt
    (get_or_default e.shape.links k l d lt) in
    let some : 0 < length (links_from e.shape l.from) = let less = at.1 in omega (arith, less) in
    record {
      part = takes e l.from.node (h.shape.sound.links.each k d lt).from_active;
      output = (h.forms.links k d lt).output;
      channels = fold_most (channels_of e.forms l.from) (links_from e.shape l.from) some same;
    }

pub pool_port : (plan : Plan) (e : Epoch) → IsSoundEpoch plan e → (q : ℕ) (x : PoolShape) → slice_get (pools_of e.shape) q ≡ Some x
    → IsPoolPort plan e x.port × (x.channels ≡ channels_of e.forms x.port)
pool_port plan e h q x at = go (slice_get (sources_of e.shape) q) refl (sym (slice_get-map (pool_of e.shape) (sources_of e.shape) q) ∙ at) where
  all : All (IsPoolPort plan e) (sources_of e.shape)
  all = sources_have (IsPoolPort plan e) [] e.shape.links (All-nil (IsPoolPort plan e)) (link_port plan e h)

  go : (o : Option PortId) → slice_get (sources_of e.shape) q ≡ o → option_map (pool_of e.shape) o ≡ Some x
      → IsPoolPort plan e x.port × (x.channels ≡ channels_of e.forms x.port)
  go None there is = absurd (none-some x is)
  go (Some port) there is =
      let same : pool_of e.shape port ≡ x = same_Some (pool_of e.shape port) x is in
      let has : IsPoolPort plan e port = subst (IsPoolPort plan e) (get_or_from_slice_get (sources_of e.shape) q port port there)
      (all q port (slice_get_within (sources_of e.shape) q port there)) in
      subst (λ (y : PoolShape). IsPoolPort plan e y.port × (y.channels ≡ channels_of e.forms y.port)) same (has, has.channels)

-- THE TABLE of an epoch: each row is one quantum

row_is : (plan : Plan) (waves : List WavIn) (e : Epoch) (c q : ℕ) (x : PoolShape) → c < e.shape.cycles
    → slice_get (pools_of e.shape) q ≡ Some x
    → get_or (get_or (epoch_rows plan waves e) c []) q [] ≡ outputs plan waves (e.shape.first + c) x.port
row_is plan waves e c q x lt at =
    let f : ℕ → List (List ℤ) = λ k. map (λ x. outputs plan waves k x.port) (pools_of e.shape) in
    let n = e.shape.first + c in
    ap (λ rows. get_or rows q []) (get_or-map-range_with_len f e.shape.first e.shape.cycles c n [] lt refl)
    ∙ get_or_from_slice_get (f n) q (outputs plan waves n x.port) []
    (slice_get-map (λ x. outputs plan waves n x.port) (pools_of e.shape) q ∙ ap (option_map (λ x. outputs plan waves n x.port)) at)

pub expected_long : (plan : Plan) (waves : List WavIn) → IsSoundPlan plan → WavesFit plan waves → (k : ℕ) (e : Epoch)
    → slice_get plan.epochs k ≡ Some e → (c q : ℕ) (x : PoolShape) → c < e.shape.cycles → slice_get (pools_of e.shape) q ≡ Some x
    → length (get_or (get_or (expected_samples plan waves k) c []) q []) ≡ e.shape.quantum * x.channels
unfolding expected_samples
expected_long plan waves sound fit k e at c q x lt pool =
    let h = epoch_sound in
    let port = pool_port plan e h q x pool in
    ap (λ o. length (get_or (get_or (listed (epoch_rows plan waves) o) c []) q [])) at
    ∙ ap length (row_is plan waves e c q x lt pool)
    ∙ outputs_long plan waves sound fit (e.shape.first + c) e x.port (cycle_in plan sound k e c at lt) port.0.part port.0.output
    ∙ ap (λ n. plan.quantum * n) (sym port.1)
    ∙ ap (λ n. n * x.channels) (sym h.quantum)
  where
    epoch_sound : IsSoundEpoch plan e
    epoch_sound = subst (IsSoundEpoch plan) (get_or_from_slice_get plan.epochs k e e at) (sound.epochs k e (slice_get_within plan.epochs k e at))

-- SAMPLES of 16 bits

clamped_short : (x : ℤ) → IsShort (clamped x)
clamped_short x = (omega (arith, ints, clamps), omega (arith, ints, clamps))

zero_short : IsShort (pos 0)
zero_short = (omega (arith, ints), omega (arith, ints))

-- what all of a list are, an item is that may be the default
any_item : {X : Type 0} (P : X → Type 0) (xs : List X) (i : ℕ) (d : X) → All P xs → P d → P (get_or xs i d)
any_item P [] i d all h = h
any_item P (x ∷ xs) zero d all h = All-head P x xs all
any_item P (x ∷ xs) (suc i) d all h = any_item P xs i d (All-tail P x xs all) h

all_joined : (f : ℕ → List ℤ) (ks : List ℕ) → ((k : ℕ) → All IsShort (f k)) → All IsShort (flat_map f ks)
all_joined f [] h = All-nil IsShort
all_joined f (k ∷ ks) h = All-append IsShort (f k) (flat_map f ks) (h k) (all_joined f ks h)

all_mapped : {X : Type 0} (f : X → ℤ) (xs : List X) → ((x : X) → IsShort (f x)) → All IsShort (map f xs)
all_mapped f [] h = All-nil IsShort
all_mapped f (x ∷ xs) h = All-cons IsShort (f x) (map f xs) (h x) (all_mapped f xs h)

stream_short : (plan : Plan) (out : Outputs) (c : ℕ) (port : PortId) → All IsShort (stream_of plan out c port)
stream_short plan out c port = all_joined (λ k. input_of plan out k port) (active_cycles plan (stream_start plan c port.node) c port.node)
    (λ k. all_mapped clamped (fold summed (silence (plan.quantum * channels_at plan k port)) (map (λ l. brought plan out k l)
    (links_into plan k port))) clamped_short)

wave_short : (waves : List WavIn) (node : ℕ) → AreShort waves → All IsShort (wave_of waves node)
wave_short [] node all = All-nil IsShort
wave_short (w ∷ ws) node all = ⊎_elim
    (λ (t : (w.node == node) ≡ true). rw t (All-head (λ (v : WavIn). All IsShort v.wav.samples) w ws all))
    (λ (s : (w.node == node) ≡ false). rw s (wave_short ws node (All-tail (λ (v : WavIn). All IsShort v.wav.samples) w ws all)))
    (cases_Bool (w.node == node))

square_short : (period : ℕ) (amp : ℤ) (i : ℕ) → pos 0 ≤ℤ amp → amp ≤ℤ pos 32767 → IsShort (square_at period amp i)
square_short period amp i low high = cond_both (nat_lt (2 * (i % period)) period) amp (neg_ℤ amp) IsShort
    (λ t. (omega (arith, ints, low), omega (arith, ints, high))) (λ f. (omega (arith, ints, high), omega (arith, ints, low)))

-- a sample of a kind, where what it has received is of 16 bits
sample_short : (k : Kind) (h : KindInputs) (o i : ℕ) → IsInRange k → All IsShort h.wave → All IsShort h.a → IsShort (kind_sample k h o i)
sample_short Source h o i range wave a = any_item IsShort h.wave i (pos 0) wave zero_short
sample_short (Square rate channels period amp) h o i range wave a = square_short period amp (i / h.channels) range.3 range.4
sample_short (Gain g) h o i range wave a = clamped_short (int_shr (get_or h.a i (pos 0) *ℤ g) 8)
sample_short (Mix2 ga gb) h o i range wave a =
    clamped_short (int_shr ((get_or h.a i (pos 0) *ℤ ga) +ℤ (get_or h.b i (pos 0) *ℤ gb)) 8)
sample_short (Delay frames) h o i range wave a =
    cond_both (nat_lt i (frames * h.channels)) (pos 0) (get_or h.a (i - frames * h.channels) (pos 0)) IsShort (λ t. zero_short)
    (λ f. any_item IsShort h.a (i - frames * h.channels) (pos 0) a zero_short)
sample_short (Map channels list) h o i range wave a =
    any_item IsShort h.a (i / length list * channels + slice_index list (i % length list)) (pos 0) a zero_short
sample_short Split h o i range wave a = any_item IsShort h.a (i * 2 + o) (pos 0) a zero_short
sample_short Sink h o i range wave a = zero_short
sample_short Meter h o i range wave a = zero_short
sample_short Dummy h o i range wave a = zero_short

-- a kind that is no node's has no samples
output_short : (plan : Plan) (waves : List WavIn) → IsSoundPlan plan → AreShort waves → (out : Outputs) (c : ℕ) (port : PortId)
    → All IsShort (output_of plan waves out c port)
output_short plan waves sound short out c port =
    let k = kind_at plan port.node in
    let h = kind_inputs_at plan waves out c port in
    let o = port.port - input_count k in
    let row = kind_output k h o in
    let whole : All IsShort row = subst (All IsShort) (sym (kind_rows k h o)) (samples k (kind_in plan.nodes port.node nodes) h o
    (wave_short waves port.node short) (stream_short plan out c (record { node = port.node; port = 0 }))) in
    All-drop IsShort (length row - plan.quantum * channels_at plan c port) row whole
  where
    nodes : All (λ (n : PlanNode). IsInRange n.kind) plan.nodes
    nodes k d lt = (sound.nodes k d lt).kind

    -- the kind of a node is in range, or the dummy
    kind_in : (ns : List PlanNode) (n : ℕ) → All (λ (x : PlanNode). IsInRange x.kind) ns
        → IsInRange (unwrap_or (option_map (λ (x : PlanNode). x.kind) (slice_get ns n)) Dummy)
        ⊎ (unwrap_or (option_map (λ (x : PlanNode). x.kind) (slice_get ns n)) Dummy ≡ Dummy)
    kind_in [] n all = inr refl
    kind_in (x ∷ xs) zero all = inl (All-head (λ (y : PlanNode). IsInRange y.kind) x xs all)
    kind_in (x ∷ xs) (suc n) all = kind_in xs n (All-tail (λ (y : PlanNode). IsInRange y.kind) x xs all)

    samples : (k : Kind) → IsInRange k ⊎ (k ≡ Dummy) → (h : KindInputs) (o : ℕ) → All IsShort h.wave → All IsShort h.a
        → All IsShort (map (kind_sample k h o) (range_with_len 0 (kind_length k h)))
    samples k (inl range) h o wave a =
        all_mapped (kind_sample k h o) (range_with_len 0 (kind_length k h)) (λ i. sample_short k h o i range wave a)
    samples k (inr dummy) h o wave a =
        subst (λ x. All IsShort (map (kind_sample x h o) (range_with_len 0 (kind_length x h)))) (sym dummy) (All-nil IsShort)

round_short : (plan : Plan) (waves : List WavIn) → IsSoundPlan plan → AreShort waves → (rounds c : ℕ) (port : PortId)
    → All IsShort (outputs_after plan waves rounds c port)
unfolding outputs_after
round_short plan waves sound short zero c port = All-nil IsShort
round_short plan waves sound short (suc rounds) c port =
    output_short plan waves sound short (outputs_after plan waves rounds) c port

pub outputs_short : (plan : Plan) (waves : List WavIn) → IsSoundPlan plan → AreShort waves → (c : ℕ) (port : PortId)
    → All IsShort (outputs plan waves c port)
outputs_short plan waves sound short c port = round_short plan waves sound short (64 * (all_cycles plan + 1)) c port

pub expected_short : (plan : Plan) (waves : List WavIn) → IsSoundPlan plan → AreShort waves → (k c q : ℕ)
    → All IsShort (get_or (get_or (expected_samples plan waves k) c []) q [])
unfolding expected_samples
expected_short plan waves sound short k c q = any_item (All IsShort) (get_or (listed (epoch_rows plan waves) (slice_get plan.epochs k)) c [])
    q [] (any_item (All (All IsShort)) (listed (epoch_rows plan waves) (slice_get plan.epochs k)) c []
    (table (slice_get plan.epochs k)) (All-nil (All IsShort))) (All-nil IsShort)
  where
    rows : (e : Epoch) (ks : List ℕ) → All (All (All IsShort)) (map (λ n. map (λ x. outputs plan waves n x.port) (pools_of e.shape)) ks)
    rows e [] = All-nil (All (All IsShort))
    rows e (n ∷ ns) = All-cons (All (All IsShort)) (map (λ x. outputs plan waves n x.port) (pools_of e.shape))
        (map (λ m. map (λ x. outputs plan waves m x.port) (pools_of e.shape)) ns) (cells n (pools_of e.shape)) (rows e ns)
      where
        cells : (n : ℕ) (xs : List PoolShape) → All (All IsShort) (map (λ x. outputs plan waves n x.port) xs)
        cells n [] = All-nil (All IsShort)
        cells n (x ∷ xs) = All-cons (All IsShort) (outputs plan waves n x.port) (map (λ x. outputs plan waves n x.port) xs)
            (outputs_short plan waves sound short n x.port) (cells n xs)

    table : (o : Option Epoch) → All (All (All IsShort)) (listed (epoch_rows plan waves) o)
    table None = All-nil (All (All IsShort))
    table (Some e) = rows e (range_with_len e.shape.first e.shape.cycles)
