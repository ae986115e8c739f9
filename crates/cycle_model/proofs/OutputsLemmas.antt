-- The cycle function solves its own equations: on a plan that can be rendered, one more round changes no output of an active node.
use Rattle.std.proofs.Common.{◌≡◌, ℕ, zero, suc, ◌+◌, ◌-◌, ◌*◌, ◌<◌, ◌≤◌, Bool, true, false, ◌==◌, nat_le, nat_lt, List, []}
use Rattle.std.proofs.Common.{◌∷◌, ◌++◌, map, length, get_or, filter, fold, flat_map, All, Some, option_map, unwrap_or, mul-le-mul_left}
use Rattle.std.proofs.Common.{refl, ap, ap₂, sym, ◌∙◌, subst, arith, ⊎_elim}
use Rattle.std.specs.List.{range_with_len}
use Rattle.std.proofs.lemmas.List.Elements.{All-head, All-tail, All-filter, filter_passes}
use Rattle.std.proofs.lemmas.Bool.{cases_Bool, cases_eq, false≢true, and_parts, leb-true, ltb-true, eqb-true, eq-eqb}
use Rattle.pw_graph.specs.declared.ids.PortId.{PortId}
use Rattle.pw_graph.specs.declared.shape.ShapeLink.{ShapeLink}
use Rattle.pw_graph.specs.declared.plan.Epoch.{Epoch}
use Rattle.pw_graph.specs.declared.plan.Plan.{Plan}
use Rattle.pw_lists.specs.Samples.{clamped, silence, summed}
use Rattle.pw_graph.specs.KindFunction.{kind_output}
use Rattle.pw_graph.specs.KindPorts.{input_count}
use Rattle.wav_files.specs.declared.wav.WavIn.{WavIn}
use Rattle.pw_graph.specs.Pools.{is_same_port}
use Rattle.cycle_model.specs.Epochs.{is_within, epoch_at, listed, first_at, is_active, links_into, channels_at, active_cycles, stream_start}
use Rattle.cycle_model.specs.Epochs.{all_cycles}
use Rattle.cycle_model.specs.Cycle.{Outputs, kind_at, wave_of, last_of, brought, input_of, stream_of, output_of, outputs_after, outputs}
use Rattle.cycle_model.specs.Mixing.{takes_part}
use Rattle.cycle_model.specs.Renderable.{IsFitting, IsRenderableEpoch, IsRenderable}
use Rattle.cycle_model.proofs.SingleEpochLemmas.{takes, last_round}
use Rattle.cycle_model.proofs.DepthLemmas.{depth, depth_less, depth_small, node_small}
use Rattle.cycle_model.proofs.EpochLemmas.{found, last_high, before, of_epoch}

-- lists that agree where it matters
pub map_agree : {A B : Type 0} (f g : A → B) (xs : List A) → All (λ x. f x ≡ g x) xs → map f xs ≡ map g xs
map_agree f g [] h = refl
map_agree f g (x ∷ xs) h = ap₂ (λ y ys. y ∷ ys) (All-head (λ x. f x ≡ g x) x xs h) (map_agree f g xs (All-tail (λ x. f x ≡ g x) x xs h))

joined_agree : {X : Type 0} (f g : ℕ → List X) (p : ℕ → Bool) (a n : ℕ) → ((k : ℕ) → a ≤ k → k < a + n → p k ≡ true → f k ≡ g k)
    → flat_map f (filter p (range_with_len a n)) ≡ flat_map g (filter p (range_with_len a n))
joined_agree f g p a zero h = refl
joined_agree f g p a (suc n) h =
    let rest : flat_map f (filter p (range_with_len (a + 1) n)) ≡ flat_map g (filter p (range_with_len (a + 1) n)) =
    joined_agree f g p (a + 1) n (λ k low high t. h k (omega arith) (omega arith) t) in
    ⊎_elim
    (λ t. rw t (ap₂ (λ x y. x ++ y) (h a (omega arith) (omega arith) t) rest))
    (λ f. rw f rest)
    (cases_Bool (p a))

-- an order of an epoch's links that are not delayed
abbrev Rises : (ℕ → ℕ) → ShapeLink → Type 0
Rises rank l = l.delayed ≡ false → rank l.from.node < rank l.to.node

record IsFeed (plan : Plan) (e : Epoch) (rank : ℕ → ℕ) (port : PortId) (l : ShapeLink) : Type 0 where
  fits : IsFitting plan e l
  rises : Rises rank l
  into : is_same_port l.to port ≡ true

feeds_all : (plan : Plan) (e : Epoch) (rank : ℕ → ℕ) (port : PortId) → All (IsFitting plan e) e.shape.links → All (Rises rank) e.shape.links
    → All (IsFeed plan e rank port) (filter (λ l. is_same_port l.to port) e.shape.links)
feeds_all plan e rank port f g k d lt = record {
  fits = All-filter (λ l. is_same_port l.to port) (IsFitting plan e) e.shape.links f k d lt;
  rises = All-filter (λ l. is_same_port l.to port) (Rises rank) e.shape.links g k d lt;
  into = filter_passes (λ l. is_same_port l.to port) e.shape.links k d lt;
}

-- two tables of outputs agree below a bound
abbrev AgreeBelow : Plan → ℕ → Outputs → Outputs → ℕ → Type 0
AgreeBelow plan size out1 out2 m = (c : ℕ) (port : PortId) (e : Epoch) (rank : ℕ → ℕ) → epoch_at plan c ≡ Some e
    → All (Rises rank) e.shape.links
    → takes_part e port.node ≡ true → size * c + depth size e rank port.node < m → out1 c port ≡ out2 c port

pub known_epoch : (plan : Plan) (waves : List WavIn) → IsRenderable plan waves → (c : ℕ) (e : Epoch) → epoch_at plan c ≡ Some e
    → IsRenderableEpoch plan e × (is_within e c ≡ true)
known_epoch plan waves r c e h = found (IsRenderableEpoch plan) (λ e. is_within e c) plan.epochs e r.epochs h

-- a link brings the same from both tables, if it is late
late_agree : (plan : Plan) (waves : List WavIn) → IsRenderable plan waves → (size : ℕ) → size ≡ 64 → (out1 out2 : Outputs) (m : ℕ)
    → AgreeBelow plan size out1 out2 m
    → (k : ℕ) (e : Epoch) (rank : ℕ → ℕ) → epoch_at plan k ≡ Some e → All (Rises rank) e.shape.links → size * k ≤ m → (l : ShapeLink)
    → IsFitting plan e l
    → (k ≡ e.shape.first → ⊥) → out1 (k - 1) l.from ≡ out2 (k - 1) l.from
late_agree plan waves r size is out1 out2 m agree zero e rank h g bound l fits ne =
    let w = (known_epoch plan waves r zero e h).1 in
    let parts = and_parts (nat_le e.shape.first zero) (nat_lt zero (e.shape.first + e.shape.cycles)) w in
    let low = leb-true e.shape.first zero parts.0 in
    absurd (ne (omega (arith, low)))
late_agree plan waves r size is out1 out2 m agree (suc k) e rank h g bound l fits ne =
    let q = (known_epoch plan waves r (suc k) e h).0 in
    let part = takes e l.from.node fits.from_active in
    let small : l.from.node < size = omega (arith, is, node_small plan waves r e q l.from.node part) in
    let d = depth_small size e rank l.from.node small in
    let then : suc k - 1 ≡ k = omega arith in
    let b : size * k + depth size e rank l.from.node < m = omega (arith, d, bound) in
    ap (λ n. out1 n l.from) then
    ∙ agree k l.from e rank (before 0 plan.epochs k e r.numbered h ne) g part b
    ∙ sym (ap (λ n. out2 n l.from) then)

-- and any link into a port whose node is no deeper than the bound
brought_agree : (plan : Plan) (waves : List WavIn) → IsRenderable plan waves → (size : ℕ) → size ≡ 64 → (out1 out2 : Outputs) (m : ℕ)
    → AgreeBelow plan size out1 out2 m
    → (k : ℕ) (e : Epoch) (rank : ℕ → ℕ) → epoch_at plan k ≡ Some e → All (Rises rank) e.shape.links → (port : PortId)
    → size * k + depth size e rank port.node ≤ m
    → (l : ShapeLink) → IsFeed plan e rank port l → brought plan out1 k l ≡ brought plan out2 k l
brought_agree plan waves r size is out1 out2 m agree k e rank h g port bound l feed =
    let first : first_at plan k ≡ e.shape.first = ap (λ o. unwrap_or (option_map (λ e. e.shape.first) o) 0) h in
    ⊎_elim
    (λ (t : l.delayed ≡ true). ⊎_elim
    (λ (s : (k == first_at plan k) ≡ true). rw (t, s) refl)
    (λ (s : (k == first_at plan k) ≡ false). rw (t, s)
    (late_agree plan waves r size is out1 out2 m agree k e rank h g (omega (arith, bound)) l feed.fits
    (λ z. false≢true (sym s ∙ eq-eqb k (first_at plan k) (z ∙ sym first)))))
    (cases_Bool (k == first_at plan k)))
    (λ (f : l.delayed ≡ false).
    let q = (known_epoch plan waves r k e h).0 in
    let part = takes e l.from.node feed.fits.from_active in
    let small : l.from.node < size = omega (arith, is, node_small plan waves r e q l.from.node part) in
    let into : l.to.node ≡ port.node = eqb-true l.to.node port.node
    (and_parts (l.to.node == port.node) (l.to.port == port.port) feed.into).0 in
    let up : rank l.from.node < rank port.node = subst (λ n. rank l.from.node < rank n) into (feed.rises f) in
    let less = depth_less size e rank l.from.node port.node up part small in
    rw f (agree k l.from e rank h g part (omega (arith, less, bound))))
    (cases_Bool l.delayed)

input_agree : (plan : Plan) (waves : List WavIn) → IsRenderable plan waves → (size : ℕ) → size ≡ 64 → (out1 out2 : Outputs) (m : ℕ)
    → AgreeBelow plan size out1 out2 m
    → (k : ℕ) (e : Epoch) (rank : ℕ → ℕ) → epoch_at plan k ≡ Some e → All (Rises rank) e.shape.links → (port : PortId)
    → size * k + depth size e rank port.node ≤ m
    → input_of plan out1 k port ≡ input_of plan out2 k port
input_agree plan waves r size is out1 out2 m agree k e rank h g port bound =
    let q = (known_epoch plan waves r k e h).0 in
    let links : links_into plan k port ≡ filter (λ l. is_same_port l.to port) e.shape.links =
    ap (λ o. filter (λ l. is_same_port l.to port) (listed (λ e. e.shape.links) o)) h in
    let all : All (λ l. brought plan out1 k l ≡ brought plan out2 k l) (filter (λ l. is_same_port l.to port) e.shape.links) =
    λ i d lt. brought_agree plan waves r size is out1 out2 m agree k e rank h g port bound
    (get_or (filter (λ l. is_same_port l.to port) e.shape.links) i d)
    (feeds_all plan e rank port q.links g i d lt) in
    let same : All (λ l. brought plan out1 k l ≡ brought plan out2 k l) (links_into plan k port) =
    subst (λ ls. All (λ l. brought plan out1 k l ≡ brought plan out2 k l) ls) (sym links) all in
    ap (λ rows. map clamped (fold summed (silence (plan.quantum * channels_at plan k port)) rows))
    (map_agree (λ l. brought plan out1 k l) (λ l. brought plan out2 k l) (links_into plan k port) same)

stream_agree : (plan : Plan) (out1 out2 : Outputs) (c : ℕ) (port : PortId)
    → ((k : ℕ) → k ≤ c → is_active plan k port.node ≡ true → input_of plan out1 k port ≡ input_of plan out2 k port)
    → stream_of plan out1 c port ≡ stream_of plan out2 c port
stream_agree plan out1 out2 c port h =
    let start = stream_start plan c port.node in
    joined_agree (λ k. input_of plan out1 k port) (λ k. input_of plan out2 k port) (λ k. is_active plan k port.node) start (c + 1 - start)
    (λ k low high t. h k (omega (arith, low, high)) t)

output_agree : (plan : Plan) (waves : List WavIn) (out1 out2 : Outputs) (c : ℕ) (port : PortId)
    → ((i : ℕ) → stream_of plan out1 c (record { node = port.node; port = i })
    ≡ stream_of plan out2 c (record { node = port.node; port = i }))
    → output_of plan waves out1 c port ≡ output_of plan waves out2 c port
output_agree plan waves out1 out2 c port h =
    ap₂ (λ a b. last_of (plan.quantum * channels_at plan c port) (kind_output (kind_at plan port.node) (record {
      wave = wave_of waves port.node;
      frames = plan.quantum * length (active_cycles plan 0 c port.node);
      channels = channels_at plan c port;
      a = a;
      b = b;
    }) (port.port - input_count (kind_at plan port.node))))
    (h 0) (h 1)

-- a node's input in any cycle up to one in which it is no deeper than the bound
port_agree : (plan : Plan) (waves : List WavIn) → IsRenderable plan waves → (size : ℕ) → size ≡ 64 → (out1 out2 : Outputs) (m : ℕ)
    → AgreeBelow plan size out1 out2 m
    → (c : ℕ) (e : Epoch) (rank : ℕ → ℕ) → epoch_at plan c ≡ Some e → All (Rises rank) e.shape.links → (node : ℕ)
    → size * c + depth size e rank node < suc m
    → (k : ℕ) → k ≤ c → is_active plan k node ≡ true → (i : ℕ)
    → input_of plan out1 k (record { node = node; port = i }) ≡ input_of plan out2 k (record { node = node; port = i })
port_agree plan waves r size is out1 out2 m agree c e rank h g node bound k le t i = ⊎_elim
    (λ (s : k ≡ c). input_agree plan waves r size is out1 out2 m agree k e rank (ap (epoch_at plan) s ∙ h) g
    (record { node = node; port = i }) (rw s (omega (arith, bound))))
    (λ (ne : k ≡ c → ⊥).
    let at = of_epoch (epoch_at plan k) node t in
    let q = (known_epoch plan waves r k at.0 at.1).0 in
    let small : node < size = omega (arith, is, node_small plan waves r at.0 q node at.2) in
    let d = depth_small size at.0 q.order.rank node small in
    let lt : k + 1 ≤ c = omega arith in
    let up : size * (k + 1) ≤ size * c = mul-le-mul_left size lt in
    input_agree plan waves r size is out1 out2 m agree k at.0 q.order.rank at.1 q.order.rises (record { node = node; port = i })
    (omega (arith, d, up, bound)))
    (cases_eq k c)

-- below a bound, all later rounds agree
settled : (plan : Plan) (waves : List WavIn) → IsRenderable plan waves → (size : ℕ) → size ≡ 64 → (m a b : ℕ) → m ≤ a → m ≤ b
    → AgreeBelow plan size (outputs_after plan waves a) (outputs_after plan waves b) m
settled plan waves r size is zero a b ha hb c port e rank h g part bound = absurd (omega arith)
settled plan waves r size is (suc m) zero b ha hb c port e rank h g part bound = absurd (omega arith)
settled plan waves r size is (suc m) (suc a) zero ha hb c port e rank h g part bound = absurd (omega arith)
settled plan waves r size is (suc m) (suc a) (suc b) ha hb c port e rank h g part bound =
    let out1 = outputs_after plan waves a in
    let out2 = outputs_after plan waves b in
    let agree : AgreeBelow plan size out1 out2 m = settled plan waves r size is m a b (omega arith) (omega arith) in
    last_round plan waves a c port
    ∙ output_agree plan waves out1 out2 c port (λ i. stream_agree plan out1 out2 c (record { node = port.node; port = i })
    (λ k le t. port_agree plan waves r size is out1 out2 m agree c e rank h g port.node bound k le t i))
    ∙ sym (last_round plan waves b c port)

solves : (plan : Plan) (waves : List WavIn) → IsRenderable plan waves → (size : ℕ) → size ≡ 64 → (c : ℕ) (port : PortId)
    → is_active plan c port.node ≡ true
    → outputs_after plan waves (size * (all_cycles plan + 1)) c port
    ≡ output_of plan waves (outputs_after plan waves (size * (all_cycles plan + 1))) c port
solves plan waves r size is c port t =
    let m = size * (all_cycles plan + 1) in
    let at = of_epoch (epoch_at plan c) port.node t in
    let known = known_epoch plan waves r c at.0 at.1 in
    let parts = and_parts (nat_le at.0.shape.first c) (nat_lt c (at.0.shape.first + at.0.shape.cycles)) known.1 in
    let high = ltb-true c (at.0.shape.first + at.0.shape.cycles) parts.1 in
    let last = last_high 0 plan.epochs (λ e. is_within e c) at.0 r.numbered at.1 in
    let lt : c + 1 ≤ all_cycles plan = omega (arith, high, last) in
    let up : size * (c + 1) ≤ size * all_cycles plan = mul-le-mul_left size lt in
    let small : port.node < size = omega (arith, is, node_small plan waves r at.0 known.0 port.node at.2) in
    let d = depth_small size at.0 known.0.order.rank port.node small in
    let bound : size * c + depth size at.0 known.0.order.rank port.node < m = omega (arith, d, up) in
    settled plan waves r size is m m (suc m) (omega arith) (omega arith) c port at.0 known.0.order.rank at.1 known.0.order.rises at.2 bound
    ∙ last_round plan waves m c port

-- each output of an active node is worked out from the cycle function itself
pub outputs_solve : (plan : Plan) (waves : List WavIn) → IsRenderable plan waves → (c : ℕ) (port : PortId)
    → is_active plan c port.node ≡ true
    → outputs plan waves c port ≡ output_of plan waves (outputs plan waves) c port
outputs_solve plan waves r c port t = solves plan waves r 64 refl c port t
