-- Full rows: by the cycles and the order of an epoch's links, what links bring is full, so inputs are, so outputs are.
use Rattle.std.proofs.Common.{◌≡◌, ◌≢◌, ℕ, zero, suc, ◌+◌, ◌-◌, ◌*◌, ◌/◌, ◌<◌, ◌≤◌, min, Bool, true, false, ◌==◌, nat_le, nat_lt}
use Rattle.std.proofs.Common.{cond, List, [], ◌∷◌, map, length, get_or, filter, fold, All, Some, option_map, unwrap_or, ℤ, pos}
use Rattle.std.proofs.Common.{refl, ap, ap₂, sym, ◌∙◌, subst, arith, ⊎_elim, mul-le-mul_left, length-append}
use Rattle.std.specs.List.{range_with_len}
use Rattle.std.proofs.Math.Nat.{le-div_iff_mul-le}
use Rattle.std.proofs.lemmas.List.{length-map, length-replicate, length-drop}
use Rattle.std.proofs.lemmas.List.FromFn.{length-map-range_with_len}
use Rattle.std.proofs.lemmas.List.Elements.{All-head, All-tail, All-filter, filter_passes}
use Rattle.std.proofs.lemmas.Slice.Zip.{length-zip}
use Rattle.std.proofs.lemmas.Bool.{cases_Bool, false≢true, and_parts, leb-true, eq-eqb, cond-true}
use Rattle.pw_graph.specs.declared.ids.PortId.{PortId}
use Rattle.pw_graph.specs.declared.kind.Kind.{Kind}
use Rattle.pw_graph.specs.declared.kind.Kind.TheVariants.{Source, Square, Gain, Mix2, Delay, Map, Split, Sink, Meter, Dummy}
use Rattle.pw_graph.specs.declared.shape.ShapeLink.{ShapeLink}
use Rattle.pw_graph.specs.declared.plan.Epoch.{Epoch}
use Rattle.pw_graph.specs.declared.plan.Plan.{Plan}
use Rattle.pw_lists.specs.Samples.{clamped, silence, summed}
use Rattle.pw_graph.specs.KindFunction.{KindInputs, kind_output}
use Rattle.pw_graph.specs.KindPorts.{input_count, port_count}
use Rattle.pw_graph.specs.PlanForms.{kind_at}
use Rattle.pw_graph.specs.Pools.{is_same_port}
use Rattle.pw_graph.proofs.PoolLemmas.{same_port}
use Rattle.wav_files.specs.declared.wav.WavIn.{WavIn}
use Rattle.cycle_model.specs.Epochs.{epoch_at, listed, first_at, is_active, links_into, channels_of, channels_at, active_cycles}
use Rattle.cycle_model.specs.Cycle.{Outputs, last_of, brought, input_of, stream_of, kind_inputs_at, outputs}
use Rattle.cycle_model.specs.KindSamples.{kind_sample, kind_length}
use Rattle.cycle_model.specs.Mixing.{takes_part}
use Rattle.cycle_model.specs.Progress.{IsOutputOf, begun}
use Rattle.cycle_model.specs.Renderable.{IsFitting, IsRenderable}
use Rattle.cycle_model.specs.working.FullRows.{AgreesIn, AreFormed, AreFull}
use Rattle.cycle_model.proofs.CycleLemmas.{active_in}
use Rattle.cycle_model.proofs.DepthLemmas.{depth, depth_less, depth_small, node_small}
use Rattle.cycle_model.proofs.EpochLemmas.{before, of_epoch}
use Rattle.cycle_model.proofs.KindLemmas.{kind_rows}
use Rattle.cycle_model.proofs.ProgressLemmas.{filter_more, stream_parts}
use Rattle.cycle_model.proofs.OutputsLemmas.{known_epoch, outputs_solve}
use Rattle.cycle_model.proofs.SingleEpochLemmas.{takes}

-- the sum of full rows is full
fold_full : (n : ℕ) (start : List ℤ) (rows : List (List ℤ)) → length start ≡ n → All (λ r. length r ≡ n) rows
    → length (fold summed start rows) ≡ n
fold_full n start [] is all = is
fold_full n start (r ∷ rows) is all =
    let row : length r ≡ n = All-head (λ (x : List ℤ). length x ≡ n) r rows all in
    let least : min (length start) (length r) ≡ n = omega (arith, is, row) in
    fold_full n (summed start r) rows (length-map _ _ ∙ length-zip start r ∙ least)
    (All-tail (λ (x : List ℤ). length x ≡ n) r rows all)

rows_full : {L : Type 0} (row : L → List ℤ) (n : ℕ) (ls : List L) → All (λ l. length (row l) ≡ n) ls → All (λ r. length r ≡ n) (map row ls)
rows_full row n [] all i d lt = absurd (omega (arith, lt))
rows_full row n (l ∷ ls) all zero d lt = all zero l (omega arith)
rows_full row n (l ∷ ls) all (suc i) d lt = rows_full row n ls (All-tail (λ l. length (row l) ≡ n) l ls all) i d (omega (arith, lt))

-- more frames have more samples
mul_le : (q f n : ℕ) → q ≤ f → q * n ≤ f * n
mul_le q f n l = grind (arith, l, mul-le-mul_left n l)

-- what a kind makes of a quantum at each input has a quantum
kind_full : (k : Kind) (h : KindInputs) (q a b i : ℕ) → AgreesIn k a b h.channels → q ≤ h.frames → q * a ≤ length h.a → q * b ≤ length h.b
    → input_count k ≤ i → i < port_count k → q * h.channels ≤ kind_length k h
kind_full Source h q a b i agrees frames la lb low high = mul_le q h.frames h.channels frames
kind_full (Square x y z w) h q a b i agrees frames la lb low high = mul_le q h.frames h.channels frames
kind_full (Gain g) h q a b i agrees frames la lb low high = let is = ap (λ n. q * n) agrees in omega (arith, is, la)
kind_full (Mix2 x y) h q a b i agrees frames la lb low high =
    let is = ap (λ n. q * n) agrees.0 in let too = ap (λ n. q * n) agrees.1 in omega (arith, is, too, la, lb)
kind_full (Delay x) h q a b i agrees frames la lb low high = let is = ap (λ n. q * n) agrees in omega (arith, is, la)
kind_full (Map channels list) h q a b i agrees frames la lb low high =
    let is = ap (λ n. q * n) agrees.0 in
    let out = ap (λ n. q * n) agrees.1 in
    let long : q * channels ≤ length h.a = omega (arith, is, la) in
    let whole : q ≤ length h.a / channels = (le-div_iff_mul-le agrees.2).1 long in
    let up = mul_le q (length h.a / channels) (length list) whole in
    omega (arith, out, up)
kind_full Split h q a b i agrees frames la lb low high =
    let is = ap (λ n. q * n) agrees.0 in let out = ap (λ n. q * n) agrees.1 in omega (arith, is, out, la)
kind_full Sink h q a b i agrees frames la lb low high = absurd (omega (arith, low, high))
kind_full Meter h q a b i agrees frames la lb low high = absurd (omega (arith, low, high))
kind_full Dummy h q a b i agrees frames la lb low high = absurd (omega (arith, low, high))

-- the last n of a row that has as many are n
last_full : (n : ℕ) (row : List ℤ) → n ≤ length row → length (last_of n row) ≡ n
last_full n row h = let rest = length-drop (length row - n) row in omega (arith, h, rest)

-- an active node has received a quantum of frames, and a stream ends with the input of the cycle
frames_full : (plan : Plan) (c node : ℕ) → is_active plan c node ≡ true → plan.quantum ≤ plan.quantum * length (active_cycles plan 0 c node)
frames_full plan c node active =
    let p : ℕ → Bool = λ k. is_active plan k node in
    let cycles : c + 1 - 0 ≡ c + 1 = omega arith in
    let more = ap (λ n. length (filter p (range_with_len 0 n))) cycles ∙ ap length (filter_more p 0 c c (omega arith))
    ∙ length-append (filter p (range_with_len 0 c)) (cond (p c) (c ∷ []) [])
    ∙ ap (λ l. length (filter p (range_with_len 0 c)) + length l) (cond-true (p c) (c ∷ []) [] active) in
    let some : 1 ≤ length (active_cycles plan 0 c node) = omega (arith, more) in
    let up = mul-le-mul_left plan.quantum some in
    omega (arith, up)

pub stream_last : (plan : Plan) (out : Outputs) (c : ℕ) (port : PortId) → is_active plan c port.node ≡ true
    → length (input_of plan out c port) ≤ length (stream_of plan out c port)
stream_last plan out c port active =
    let parts = ap length (stream_parts plan out c port)
    ∙ length-append (begun plan out c port) (cond (is_active plan c port.node) (input_of plan out c port) [])
    ∙ ap (λ l. length (begun plan out c port) + length l) (cond-true (is_active plan c port.node) (input_of plan out c port) [] active) in
    omega (arith, parts)

-- a rank rises along each link that is not delayed
abbrev Rises : (ℕ → ℕ) → ShapeLink → Type 0
Rises rank l = l.delayed ≡ false → rank l.from.node < rank l.to.node

-- all outputs below a bound are full
abbrev FullBelow : Plan → Outputs → ℕ → ℕ → Type 0
FullBelow plan out size m = (c : ℕ) (port : PortId) (e : Epoch) (rank : ℕ → ℕ) → epoch_at plan c ≡ Some e
    → All (Rises rank) e.shape.links → takes_part e port.node ≡ true → IsOutputOf plan port
    → size * c + depth size e rank port.node < m → length (out c port) ≡ plan.quantum * channels_of e.forms port

module _ (plan : Plan) (waves : List WavIn) (r : IsRenderable plan waves) (size : ℕ) (is : size ≡ 64) (out : Outputs) (m : ℕ)
    (full : FullBelow plan out size m) where
  -- what a late link brings, if it is not its epoch's first cycle
  late_full : (k : ℕ) (e : Epoch) (rank : ℕ → ℕ) → epoch_at plan k ≡ Some e → All (Rises rank) e.shape.links → size * k ≤ m
      → (l : ShapeLink) → IsFitting plan e l → k ≢ e.shape.first → length (out (k - 1) l.from) ≡ plan.quantum * l.channels
  late_full zero e rank h g bound l fits ne =
      let w = (known_epoch plan waves r zero e h).1 in
      let parts = and_parts (nat_le e.shape.first zero) (nat_lt zero (e.shape.first + e.shape.cycles)) w in
      absurd (ne (omega (arith, leb-true e.shape.first zero parts.0)))
  late_full (suc k) e rank h g bound l fits ne =
      let q = (known_epoch plan waves r (suc k) e h).0 in
      let part = takes e l.from.node fits.from_active in
      let small : l.from.node < size = omega (arith, is, node_small plan waves r e q l.from.node part) in
      let d = depth_small size e rank l.from.node small in
      let then : suc k - 1 ≡ k = omega arith in
      let b : size * k + depth size e rank l.from.node < m = omega (arith, d, bound) in
      ap (λ n. length (out n l.from)) then
      ∙ full k l.from e rank (before 0 plan.epochs k e r.numbered h ne) g part fits.from_output b
      ∙ ap (λ n. plan.quantum * n) fits.from_form

  -- what any link into a port brings, whose node is no deeper than the bound
  brought_full : (k : ℕ) (e : Epoch) (rank : ℕ → ℕ) → epoch_at plan k ≡ Some e → All (Rises rank) e.shape.links → (port : PortId)
      → size * k + depth size e rank port.node ≤ m → (l : ShapeLink) → IsFitting plan e l → Rises rank l → is_same_port l.to port ≡ true
      → length (brought plan out k l) ≡ plan.quantum * l.channels
  brought_full k e rank h g port bound l fits rises into =
      let first : first_at plan k ≡ e.shape.first = ap (λ o. unwrap_or (option_map (λ e. e.shape.first) o) 0) h in
      ⊎_elim
      (λ (t : l.delayed ≡ true). ⊎_elim
      (λ (s : (k == first_at plan k) ≡ true). rw (t, s) (length-replicate (plan.quantum * l.channels) (pos 0)))
      (λ (s : (k == first_at plan k) ≡ false). rw (t, s)
      (late_full k e rank h g (omega (arith, bound)) l fits (λ z. false≢true (sym s ∙ eq-eqb k (first_at plan k) (z ∙ sym first)))))
      (cases_Bool (k == first_at plan k)))
      (λ (f : l.delayed ≡ false).
      let q = (known_epoch plan waves r k e h).0 in
      let part = takes e l.from.node fits.from_active in
      let small : l.from.node < size = omega (arith, is, node_small plan waves r e q l.from.node part) in
      let same : l.to.node ≡ port.node = ap (λ (p : PortId). p.node) (same_port l.to port into) in
      let up : rank l.from.node < rank port.node = subst (λ n. rank l.from.node < rank n) same (rises f) in
      let less = depth_less size e rank l.from.node port.node up part small in
      rw f (full k l.from e rank h g part fits.from_output (omega (arith, less, bound)) ∙ ap (λ n. plan.quantum * n) fits.from_form))
      (cases_Bool l.delayed)

  -- so an input is full
  input_full : (k : ℕ) (e : Epoch) (rank : ℕ → ℕ) → epoch_at plan k ≡ Some e → All (Rises rank) e.shape.links → (port : PortId)
      → size * k + depth size e rank port.node ≤ m → length (input_of plan out k port) ≡ plan.quantum * channels_of e.forms port
  input_full k e rank h g port bound =
      let q = (known_epoch plan waves r k e h).0 in
      let n = plan.quantum * channels_of e.forms port in
      let ls = filter (λ l. is_same_port l.to port) e.shape.links in
      let links : links_into plan k port ≡ ls = ap (λ o. filter (λ l. is_same_port l.to port) (listed (λ e. e.shape.links) o)) h in
      let channels : channels_at plan k port ≡ channels_of e.forms port = ap (λ o. channels_of (listed (λ e. e.forms) o) port) h in
      let each : All (λ l. length (brought plan out k l) ≡ n) ls = λ i d lt.
      let l = get_or ls i d in
      let fits = All-filter (λ l. is_same_port l.to port) (IsFitting plan e) e.shape.links q.links i d lt in
      let into : is_same_port l.to port ≡ true = filter_passes (λ l. is_same_port l.to port) e.shape.links i d lt in
      brought_full k e rank h g port bound l fits (All-filter (λ l. is_same_port l.to port) (Rises rank) e.shape.links g i d lt) into
      ∙ ap (λ x. plan.quantum * x) (sym fits.to_form ∙ ap (channels_of e.forms) (same_port l.to port into)) in
      length-map _ clamped
      ∙ ap₂ (λ c ks. length (fold summed (silence (plan.quantum * c)) (map (λ l. brought plan out k l) ks))) channels links
      ∙ fold_full n (silence n) (map (λ l. brought plan out k l) ls) (length-replicate n (pos 0))
      (rows_full (λ l. brought plan out k l) n ls each)

module _ (plan : Plan) (waves : List WavIn) (r : IsRenderable plan waves) (formed : AreFormed plan) (size : ℕ) (is : size ≡ 64) where
  abbrev out : Outputs
  out = outputs plan waves

  -- so an output is, below each bound
  all_full : (m : ℕ) → FullBelow plan out size m
  all_full zero c port e rank h g part is_out bound = absurd (omega (arith, bound))
  all_full (suc m) c port e rank h g part is_out bound =
      let active : is_active plan c port.node ≡ true = active_in plan c e port.node h ∙ part in
      let k = kind_at plan port.node in
      let inputs_of_port = kind_inputs_at plan waves out c port in
      let input : (i : ℕ) → plan.quantum * channels_of e.forms (record { node = port.node; port = i })
      ≤ length (stream_of plan out c (record { node = port.node; port = i })) = λ i.
      let p : PortId = record { node = port.node; port = i } in
      let one = input_full plan waves r size is out m (all_full m) c e rank h g p (omega (arith, bound)) in
      let last = stream_last plan out c p active in
      omega (arith, one, last) in
      let channels : channels_at plan c port ≡ channels_of e.forms port = ap (λ o. channels_of (listed (λ e. e.forms) o) port) h in
      let agrees = subst (AgreesIn k (channels_of e.forms (record { node = port.node; port = 0 }))
      (channels_of e.forms (record { node = port.node; port = 1 }))) (sym channels) (formed c e port h part is_out) in
      let o = port.port - input_count k in
      let whole : plan.quantum * channels_at plan c port ≤ kind_length k inputs_of_port =
      kind_full k inputs_of_port plan.quantum (channels_of e.forms (record { node = port.node; port = 0 }))
      (channels_of e.forms (record { node = port.node; port = 1 })) port.port agrees (frames_full plan c port.node active)
      (input 0) (input 1) is_out.0 is_out.1 in
      let row = kind_output k inputs_of_port o in
      let long : length row ≡ kind_length k inputs_of_port =
      ap length (kind_rows k inputs_of_port o) ∙ length-map-range_with_len (kind_sample k inputs_of_port o) 0 (kind_length k inputs_of_port) in
      ap length (outputs_solve plan waves r c port active)
      ∙ last_full (plan.quantum * channels_at plan c port) row (omega (arith, whole, long))
      ∙ ap (λ n. plan.quantum * n) channels

-- FULL ROWS, where the channels of each node's ports agree
pub formed_rows : (plan : Plan) (waves : List WavIn) → IsRenderable plan waves → AreFormed plan → AreFull plan waves
formed_rows plan waves r formed c port active is_out =
    let at = of_epoch (epoch_at plan c) port.node active in
    let known = (known_epoch plan waves r c at.0 at.1).0 in
    all_full plan waves r formed 64 refl (suc (64 * c + depth 64 at.0 known.order.rank port.node)) c port at.0 known.order.rank at.1
    known.order.rises at.2 is_out (omega arith)
    ∙ ap (λ n. plan.quantum * n) (sym (ap (λ o. channels_of (listed (λ e. e.forms) o) port) at.1))

-- and so each input is full
pub formed_inputs : (plan : Plan) (waves : List WavIn) → IsRenderable plan waves → AreFormed plan → (c : ℕ) (e : Epoch) (port : PortId)
    → epoch_at plan c ≡ Some e → length (input_of plan (outputs plan waves) c port) ≡ plan.quantum * channels_of e.forms port
formed_inputs plan waves r formed c e port at =
    let known = (known_epoch plan waves r c e at).0 in
    let m = 64 * c + depth 64 e known.order.rank port.node in
    input_full plan waves r 64 refl (outputs plan waves) m (all_full plan waves r formed 64 refl m) c e known.order.rank at
    known.order.rises port (omega arith)
