-- The cycle function on a plan of sources and sinks with one epoch: each port's stream, as a function of the place.
use Rattle.std.proofs.Common.{◌≡◌, ℕ, zero, suc, ◌+◌, ◌-◌, ◌*◌, ◌<◌, ◌≤◌, true, false, cond, ◌&&◌, ◌==◌, nat_le, List, []}
use Rattle.std.proofs.Common.{◌∷◌, ◌++◌, map, length, get_or, take, drop, filter, find, fold, flat_map, ℤ, pos, ◌+ℤ◌, All, Contains, Some}
use Rattle.std.proofs.Common.{None, slice_get, option_map, unwrap_or, refl, ap, ap₂, sym, ◌∙◌, arith, ◌⊎◌, inl, inr, ⊎_elim}
use Rattle.std.specs.List.{range_with_len, list_any}
use Rattle.std.proofs.lemmas.List.Elements.{All-head, All-tail, All-filter, filter_passes}
use Rattle.std.proofs.lemmas.List.Folds.{list_any_at}
use Rattle.std.proofs.lemmas.List.FromFn.{length-range_with_len, length-map-range_with_len}
use Rattle.std.proofs.lemmas.Bool.{and_from, and_parts, le-leb, lt-ltb, cond-true, cond_both, eqb-true, eq-eqb}
use Rattle.pw_graph.specs.declared.ids.PortId.{PortId}
use Rattle.pw_graph.specs.declared.kind.Kind.{Kind}
use Rattle.pw_graph.specs.declared.kind.Kind.TheVariants.{Source, Square, Gain, Mix2, Delay, Map, Split, Sink, Meter, Dummy}
use Rattle.pw_graph.specs.declared.shape.ShapeLink.{ShapeLink}
use Rattle.pw_graph.specs.declared.plan.Epoch.{Epoch}
use Rattle.pw_graph.specs.declared.plan.PortForm.{PortForm}
use Rattle.pw_graph.specs.declared.plan.Plan.{Plan}
use Rattle.pw_graph.specs.declared.plan.PlanNode.{PlanNode}
use Rattle.pw_lists.specs.Samples.{clamped, silence, summed}
use Rattle.pw_graph.specs.KindFunction.{kind_output}
use Rattle.pw_graph.specs.KindPorts.{input_count, port_count}
use Rattle.wav_files.specs.declared.wav.WavIn.{WavIn}
use Rattle.pw_graph.specs.Pools.{is_same_port}
use Rattle.cycle_model.specs.Epochs.{is_within, is_fresh, epoch_at, listed, is_active, links_into, channels_of, channels_at, active_cycles}
use Rattle.cycle_model.specs.Epochs.{stream_start, all_cycles}
use Rattle.cycle_model.specs.Cycle.{Outputs, kind_at, wave_of, brought, input_of, stream_of, kind_inputs_at, last_of, output_of, outputs_after}
use Rattle.cycle_model.specs.Cycle.{outputs}
use Rattle.cycle_model.specs.Mixing.{takes_part, IsSourceOrSink}
use Rattle.cycle_model.specs.Renderable.{IsFitting}
use Rattle.cycle_model.proofs.RowLemmas.{padded, end_of_row, silence_is, fold_summed, map_map, rows_joined, flat_map_agree}
use Rattle.cycle_model.proofs.RowLemmas.{filter_range_all, filter_range_none}

-- what is known of such a plan
pub record IsSingle (plan : Plan) (e : Epoch) : Type 0 where
  pub one : plan.epochs ≡ e ∷ []
  pub first : e.shape.first ≡ 0
  pub quantum : e.shape.quantum ≡ plan.quantum
  pub links : All (IsFitting plan e) e.shape.links
  pub prompt : All (λ l. l.delayed ≡ false) e.shape.links
  pub kinds : All (λ n. IsSourceOrSink n.kind) plan.nodes

-- sample j of a node's wave, and the clamped sum of those that the links bring
abbrev pub wave_at : List WavIn → ℕ → ℕ → ℤ
wave_at waves j node = get_or (wave_of waves node) j (pos 0)

abbrev pub mixed_at : List WavIn → List ShapeLink → ℕ → ℤ
mixed_at waves links j = clamped (fold (λ s l. s +ℤ wave_at waves j l.from.node) (pos 0) links)

within : (plan : Plan) (e : Epoch) → IsSingle plan e → (c : ℕ) → c < e.shape.cycles → is_within e c ≡ true
within plan e s c h =
    let low : e.shape.first ≤ c = omega (arith, s.first) in
    let high : c < e.shape.first + e.shape.cycles = omega (arith, s.first) in
    and_from _ _ (le-leb e.shape.first c low) (lt-ltb c (e.shape.first + e.shape.cycles) high)

pub epoch_is : (plan : Plan) (e : Epoch) → IsSingle plan e → (c : ℕ) → c < e.shape.cycles → epoch_at plan c ≡ Some e
epoch_is plan e s c h = ap (λ es. find (λ e. is_within e c) es) s.one ∙ cond-true (is_within e c) (Some e) None (within plan e s c h)

pub any_map : {X : Type 0} (f : X → ℕ) (node : ℕ) (xs : List X) → list_any (λ n. n == node) (map f xs) ≡ list_any (λ x. f x == node) xs
any_map f node [] = refl
any_map f node (x ∷ xs) = rw (any_map f node xs)

pub active_is : (plan : Plan) (e : Epoch) → IsSingle plan e → (c node : ℕ) → c < e.shape.cycles → is_active plan c node ≡ takes_part e node
active_is plan e s c node h =
    ap (λ o. list_any (λ n. n == node) (listed (λ e. map (λ n. n.node) e.shape.nodes) o)) (epoch_is plan e s c h)
    ∙ any_map (λ n. n.node) node e.shape.nodes

pub channels_are : (plan : Plan) (e : Epoch) → IsSingle plan e → (c : ℕ) (port : PortId) → c < e.shape.cycles
    → channels_at plan c port ≡ channels_of e.forms port
channels_are plan e s c port h = ap (λ o. channels_of (listed (λ e. e.forms) o) port) (epoch_is plan e s c h)

pub links_are : (plan : Plan) (e : Epoch) → IsSingle plan e → (c : ℕ) (port : PortId) → c < e.shape.cycles
    → links_into plan c port ≡ filter (λ l. is_same_port l.to port) e.shape.links
links_are plan e s c port h = ap (λ o. filter (λ l. is_same_port l.to port) (listed (λ e. e.shape.links) o)) (epoch_is plan e s c h)

pub start_is : (plan : Plan) (e : Epoch) → IsSingle plan e → (c node : ℕ) → stream_start plan c node ≡ 0
start_is plan e s c node =
    ap (λ es. fold (λ start e. cond (nat_le e.shape.first c && is_fresh e node) e.shape.first start) 0 es) s.one
    ∙ cond_both (nat_le e.shape.first c && is_fresh e node) e.shape.first 0 (λ n. n ≡ 0) (λ t. s.first) (λ f. refl)

pub cycles_all : (plan : Plan) (e : Epoch) → IsSingle plan e → (c node : ℕ) → c < e.shape.cycles → takes_part e node ≡ true
    → active_cycles plan 0 c node ≡ range_with_len 0 (c + 1)
cycles_all plan e s c node h t =
    filter_range_all (λ k. is_active plan k node) 0 (c + 1 - 0) (λ k lt. active_is plan e s k node (omega arith) ∙ t)
    ∙ (let d : c + 1 - 0 ≡ c + 1 = omega arith in ap (λ n. range_with_len 0 n) d)

pub cycles_none : (plan : Plan) (e : Epoch) → IsSingle plan e → (c node : ℕ) → c < e.shape.cycles → takes_part e node ≡ false
    → active_cycles plan 0 c node ≡ []
cycles_none plan e s c node h t =
    filter_range_none (λ k. is_active plan k node) 0 (c + 1 - 0) (λ k lt. active_is plan e s k node (omega arith) ∙ t)

-- what a source gives in a cycle: the samples of its wave from that cycle's first place on
given_row : (w : List ℤ) (q c f ch n : ℕ) → f * ch ≡ c * q + q → n ≡ q
    → last_of n (take (f * ch) (w ++ silence (f * ch))) ≡ map (λ r. get_or w (c * q + r) (pos 0)) (range_with_len 0 q)
given_row w q c f ch n e d =
    let row = λ (m : ℕ). map (λ j. get_or w j (pos 0)) (range_with_len 0 m) in
    let long : length (row (c * q + q)) - n ≡ c * q = omega (arith, length-map-range_with_len (λ j. get_or w j (pos 0)) 0 (c * q + q)) in
    ap (λ t. last_of n t) (padded w (f * ch) ∙ ap row e)
    ∙ ap (λ m. drop m (row (c * q + q))) long
    ∙ end_of_row (λ j. get_or w j (pos 0)) (c * q) q

product : (p c ch q : ℕ) → q ≡ p * ch → p * (c + 1) * ch ≡ c * q + q
product p c ch q h = rw h (omega arith)

source_row : (plan : Plan) (e : Epoch) → IsSingle plan e → (waves : List WavIn) (out : Outputs) (c : ℕ) (port : PortId) → c < e.shape.cycles
    → takes_part e port.node ≡ true
    → kind_at plan port.node ≡ Source → (q : ℕ) → q ≡ plan.quantum * channels_of e.forms port
    → output_of plan waves out c port ≡ map (λ r. wave_at waves (c * q + r) port.node) (range_with_len 0 q)
source_row plan e s waves out c port h t kind q is_q =
    let h1 = kind_inputs_at plan waves out c port in
    let ch : channels_at plan c port ≡ channels_of e.forms port = channels_are plan e s c port h in
    let len : length (active_cycles plan 0 c port.node) ≡ c + 1 = ap length (cycles_all plan e s c port.node h t)
    ∙ length-range_with_len 0 (c + 1) in
    let size : plan.quantum * length (active_cycles plan 0 c port.node) * channels_at plan c port ≡ c * q + q =
    ap₂ (λ a b. plan.quantum * a * b) len ch ∙ product plan.quantum c (channels_of e.forms port) q is_q in
    let n : plan.quantum * channels_at plan c port ≡ q = ap (λ a. plan.quantum * a) ch ∙ sym is_q in
    ap (λ k. last_of (plan.quantum * channels_at plan c port) (kind_output k h1 (port.port - input_count k))) kind
    ∙ given_row (wave_of waves port.node) q c (plan.quantum * length (active_cycles plan 0 c port.node)) (channels_at plan c port)
    (plan.quantum * channels_at plan c port) size n

-- the last round works the outputs out from those before it
pub last_round : (plan : Plan) (waves : List WavIn) (r : ℕ) (c : ℕ) (port : PortId)
    → outputs_after plan waves (suc r) c port ≡ output_of plan waves (outputs_after plan waves r) c port
unfolding outputs_after
last_round plan waves r c port = refl

rounds : (plan : Plan) (waves : List WavIn) (c : ℕ) (port : PortId)
    → outputs plan waves c port ≡ output_of plan waves (outputs_after plan waves (64 * all_cycles plan + 63)) c port
rounds plan waves c port =
    let e : 64 * (all_cycles plan + 1) ≡ suc (64 * all_cycles plan + 63) = omega arith in
    ap (λ r. outputs_after plan waves r c port) e ∙ last_round plan waves (64 * all_cycles plan + 63) c port

-- whoever gives samples to a link is a source
abbrev IsKnown : Kind → Type 0
IsKnown k = IsSourceOrSink k ⊎ (k ≡ Dummy)

known_kind : (nodes : List PlanNode) (node : ℕ) → All (λ n. IsSourceOrSink n.kind) nodes
    → IsKnown (unwrap_or (option_map (λ n. n.kind) (slice_get nodes node)) Dummy)
known_kind [] node h = inr refl
known_kind (n ∷ ns) zero h = inl (All-head (λ n. IsSourceOrSink n.kind) n ns h)
known_kind (n ∷ ns) (suc node) h = known_kind ns node (All-tail (λ n. IsSourceOrSink n.kind) n ns h)

giver : (k : Kind) (port : ℕ) → IsKnown k → input_count k ≤ port → port < port_count k → k ≡ Source
giver Source port known low high = refl
giver Sink port known low high = absurd (omega arith)
giver Dummy port known low high = absurd (omega arith)
giver (Square a b c d) port known low high = ⊎_elim (λ n. absurd n) (λ e. absurd (cc)) known
giver (Gain a) port known low high = ⊎_elim (λ n. absurd n) (λ e. absurd (cc)) known
giver (Mix2 a b) port known low high = ⊎_elim (λ n. absurd n) (λ e. absurd (cc)) known
giver (Delay a) port known low high = ⊎_elim (λ n. absurd n) (λ e. absurd (cc)) known
giver (Map a b) port known low high = ⊎_elim (λ n. absurd n) (λ e. absurd (cc)) known
giver Split port known low high = ⊎_elim (λ n. absurd n) (λ e. absurd (cc)) known
giver Meter port known low high = ⊎_elim (λ n. absurd n) (λ e. absurd (cc)) known

-- what is known of a link into a port
record IsFeed (plan : Plan) (e : Epoch) (port : PortId) (l : ShapeLink) : Type 0 where
  fits : IsFitting plan e l
  prompt : l.delayed ≡ false
  into : is_same_port l.to port ≡ true

feeds_all : (plan : Plan) (e : Epoch) → IsSingle plan e → (port : PortId)
    → All (IsFeed plan e port) (filter (λ l. is_same_port l.to port) e.shape.links)
feeds_all plan e s port k d lt = record {
  fits = All-filter (λ l. is_same_port l.to port) (IsFitting plan e) e.shape.links s.links k d lt;
  prompt = All-filter (λ l. is_same_port l.to port) (λ l. l.delayed ≡ false) e.shape.links s.prompt k d lt;
  into = filter_passes (λ l. is_same_port l.to port) e.shape.links k d lt;
}

same_port : (forms : List PortForm) (a b : PortId) → is_same_port a b ≡ true → channels_of forms a ≡ channels_of forms b
same_port forms a b h =
    let parts = and_parts (a.node == b.node) (a.port == b.port) h in
    ap₂ (λ n p. channels_of forms (record { node = n; port = p })) (eqb-true a.node b.node parts.0) (eqb-true a.port b.port parts.1)

pub takes : (e : Epoch) (node : ℕ) → Contains (map (λ n. n.node) e.shape.nodes) node → takes_part e node ≡ true
takes e node h =
    sym (any_map (λ n. n.node) node e.shape.nodes)
    ∙ list_any_at (λ n. n == node) (map (λ n. n.node) e.shape.nodes) h.0 node h.1 (eq-eqb _ node h.2)

brought_row : (plan : Plan) (e : Epoch) → IsSingle plan e → (waves : List WavIn) (c : ℕ) (port : PortId) (l : ShapeLink)
    → c < e.shape.cycles → IsFeed plan e port l
    → (q : ℕ) → q ≡ plan.quantum * channels_of e.forms port
    → brought plan (outputs plan waves) c l ≡ map (λ r. wave_at waves (c * q + r) l.from.node) (range_with_len 0 q)
brought_row plan e s waves c port l h feed q is_q =
    let kind : kind_at plan l.from.node ≡ Source =
    giver (kind_at plan l.from.node) l.from.port (known_kind plan.nodes l.from.node s.kinds)
    feed.fits.from_output.0 feed.fits.from_output.1 in
    let channels : channels_of e.forms port ≡ channels_of e.forms l.from =
    sym (same_port e.forms l.to port feed.into) ∙ feed.fits.to_form ∙ sym feed.fits.from_form in
    rw feed.prompt
    (rounds plan waves c l.from
    ∙ source_row plan e s waves (outputs_after plan waves (64 * all_cycles plan + 63)) c l.from h
    (takes e l.from.node feed.fits.from_active) kind q
    (is_q ∙ ap (λ n. plan.quantum * n) channels))

-- what a port gets in a cycle
input_row : (plan : Plan) (e : Epoch) → IsSingle plan e → (waves : List WavIn) (c : ℕ) (port : PortId) → c < e.shape.cycles → (q : ℕ)
    → q ≡ plan.quantum * channels_of e.forms port
    → input_of plan (outputs plan waves) c port ≡ map (λ r. mixed_at waves (filter (λ l. is_same_port l.to port) e.shape.links) (c * q + r))
    (range_with_len 0 q)
input_row plan e s waves c port h q is_q =
    let out = outputs plan waves in
    let feeds = filter (λ l. is_same_port l.to port) e.shape.links in
    let size : plan.quantum * channels_at plan c port ≡ q = ap (λ n. plan.quantum * n) (channels_are plan e s c port h) ∙ sym is_q in
    let rows : All (λ l. brought plan out c l ≡ map (λ r. wave_at waves (c * q + r) l.from.node) (range_with_len 0 q)) feeds =
    λ k d lt. brought_row plan e s waves c port (get_or feeds k d) h (feeds_all plan e s port k d lt) q is_q in
    ap₂ (λ n ls. map clamped (fold summed (silence n) (map (λ l. brought plan out c l) ls))) size (links_are plan e s c port h)
    ∙ ap (λ t. map clamped (fold summed t (map (λ l. brought plan out c l) feeds))) (silence_is 0 q)
    ∙ ap (λ t. map clamped t) (fold_summed (λ l. brought plan out c l) (λ l r. wave_at waves (c * q + r) l.from.node) (λ j. pos 0)
    (range_with_len 0 q) feeds rows)
    ∙ map_map clamped (λ r. fold (λ s l. s +ℤ wave_at waves (c * q + r) l.from.node) (pos 0) feeds) (range_with_len 0 q)

-- what a port has got up to a cycle
pub stream_row : (plan : Plan) (e : Epoch) → IsSingle plan e → (waves : List WavIn) (c : ℕ) (port : PortId) → c < e.shape.cycles
    → takes_part e port.node ≡ true
    → stream_of plan (outputs plan waves) c port
    ≡ map (mixed_at waves (filter (λ l. is_same_port l.to port) e.shape.links))
    (range_with_len 0 ((c + 1) * (plan.quantum * channels_of e.forms port)))
stream_row plan e s waves c port h t =
    let out = outputs plan waves in
    let q = plan.quantum * channels_of e.forms port in
    let g = mixed_at waves (filter (λ l. is_same_port l.to port) e.shape.links) in
    let z : 0 * q ≡ 0 = omega arith in
    ap (λ start. flat_map (λ k. input_of plan out k port) (active_cycles plan start c port.node)) (start_is plan e s c port.node)
    ∙ ap (λ ks. flat_map (λ k. input_of plan out k port) ks) (cycles_all plan e s c port.node h t)
    ∙ flat_map_agree (λ k. input_of plan out k port) (λ k. map (λ r. g (k * q + r)) (range_with_len 0 q)) 0 (c + 1)
    (λ k lt. input_row plan e s waves k port (omega arith) q refl)
    ∙ rows_joined g q 0 (c + 1)
    ∙ ap (λ a. map g (range_with_len a ((c + 1) * q))) z

pub no_stream : (plan : Plan) (e : Epoch) → IsSingle plan e → (waves : List WavIn) (c : ℕ) (port : PortId) → c < e.shape.cycles
    → takes_part e port.node ≡ false
    → stream_of plan (outputs plan waves) c port ≡ []
no_stream plan e s waves c port h t =
    let out = outputs plan waves in
    ap (λ start. flat_map (λ k. input_of plan out k port) (active_cycles plan start c port.node)) (start_is plan e s c port.node)
    ∙ ap (λ ks. flat_map (λ k. input_of plan out k port) ks) (cycles_none plan e s c port.node h t)
