-- One cycle, node by node: inputs, outputs, and what is known, against the cycle function.
use Rattle.std.proofs.Common.{◌≡◌, ◌≢◌, ℕ, zero, suc, ◌+◌, ◌-◌, ◌*◌, ◌<◌, ◌≤◌, Bool, true, false, ◌==◌, nat_le, nat_lt}
use Rattle.std.proofs.Common.{cond, List, [], ◌∷◌, ◌++◌, map, length, take, get_or, set, filter, fold, All, Some, None, option_map}
use Rattle.std.proofs.Common.{unwrap_or, slice_get, ℤ, refl, ap, ap₂, sym, ◌∙◌, subst, arith, ⊎_elim, length-set, length-append}
use Rattle.std.specs.List.{range_with_len, list_any}
use Rattle.std.proofs.lemmas.List.{get_or_append_left, get_or-append_right, get_or-set_same, get_or-set_other, take_more, take_all}
use Rattle.std.proofs.lemmas.List.Elements.{All-head, All-tail, All-cons, All-nil, All-append, All-filter, filter_passes}
use Rattle.std.proofs.lemmas.Bool.{cases_Bool, cases_eq, cases_lt, false≢true, and_parts, leb-true, eqb-true, eq-eqb, ne_eqb}
use Rattle.pw_graph.specs.declared.ids.PortId.{PortId}
use Rattle.pw_graph.specs.declared.kind.Kind.{Kind}
use Rattle.pw_graph.specs.declared.kind.Kind.TheVariants.{Source, Square, Gain, Mix2, Delay, Map, Split, Sink, Meter, Dummy}
use Rattle.pw_graph.specs.declared.shape.ShapeLink.{ShapeLink}
use Rattle.pw_graph.specs.declared.plan.Epoch.{Epoch}
use Rattle.pw_graph.specs.declared.plan.Plan.{Plan}
use Rattle.pw_graph.specs.declared.plan.PlanNode.{PlanNode}
use Rattle.pw_lists.specs.Samples.{clamped, silence, summed}
use Rattle.pw_graph.specs.KindFunction.{KindInputs, kind_output}
use Rattle.pw_graph.specs.KindPorts.{input_count, output_count, port_count}
use Rattle.pw_graph.specs.PlanForms.{kind_at}
use Rattle.pw_graph.specs.LinkOrder.{HasOrder, IsWithinNodes}
use Rattle.pw_graph.specs.SoundPlan.{FollowFrom}
use Rattle.wav_files.specs.declared.wav.WavIn.{WavIn}
use Rattle.cycle_model.specs.declared.received.Received.{Received}
use Rattle.cycle_model.specs.declared.received.Given.{Given}
use Rattle.pw_graph.specs.Pools.{is_same_port}
use Rattle.cycle_model.specs.Epochs.{is_within, epoch_at, listed, first_at, is_active, links_into, channels_of, channels_at, active_cycles}
use Rattle.cycle_model.specs.Cycle.{wave_of, last_of, brought, input_of, stream_of, kind_inputs_at, outputs}
use Rattle.cycle_model.specs.Mixing.{takes_part}
use Rattle.cycle_model.specs.Renderable.{IsFitting, IsRenderableEpoch, IsRenderable}
use Rattle.cycle_model.specs.working.NodeOrder.{is_among, MayFollow, IsOrder, IsWhole}
use Rattle.cycle_model.specs.working.Known.{given_at, brought_by, input_by, received_more, given_by, all_given_by, is_released, released}
use Rattle.cycle_model.specs.Progress.{received_until, received_before, nothing, AreReceived, IsOutputOf, TellsCycle, TellsBefore}
use Rattle.cycle_model.specs.working.UnderWay.{IsUnderWay, IsCycle}
use Rattle.cycle_model.proofs.SingleEpochLemmas.{any_map, takes}
use Rattle.cycle_model.proofs.EpochLemmas.{before}
use Rattle.cycle_model.proofs.OutputsLemmas.{map_agree, known_epoch, outputs_solve}
use Rattle.cycle_model.proofs.NodeOrderLemmas.{among_last, among_kept, among_other}
use Rattle.cycle_model.proofs.DepthLemmas.{node_small}
use Rattle.cycle_model.proofs.ProgressLemmas.{received_active, received_idle, released_is}

-- a node is active in a cycle where it takes part in the cycle's epoch
pub active_in : (plan : Plan) (c : ℕ) (e : Epoch) (node : ℕ) → epoch_at plan c ≡ Some e → is_active plan c node ≡ takes_part e node
active_in plan c e node at = ap (λ o. list_any (λ n. n == node) (listed (λ e. map (λ n. n.node) e.shape.nodes) o)) at
    ∙ any_map (λ n. n.node) node e.shape.nodes

-- what is known of a port, one entry at a time
given_first : (g : Given) (gs : List Given) (port : PortId) → is_same_port g.port port ≡ true → given_at (g ∷ gs) port ≡ g.samples
given_first g gs port t = rw t refl

given_next : (g : Given) (gs : List Given) (port : PortId) → is_same_port g.port port ≡ false → given_at (g ∷ gs) port ≡ given_at gs port
given_next g gs port f = rw f refl

-- entries of other ports
given_skip : (xs ys : List Given) (port : PortId) → All (λ g. is_same_port g.port port ≡ false) xs → given_at (xs ++ ys) port ≡ given_at ys port
given_skip [] ys port h = refl
given_skip (x ∷ xs) ys port h = given_next x (xs ++ ys) port (All-head (λ g. is_same_port g.port port ≡ false) x xs h)
    ∙ given_skip xs ys port (All-tail (λ g. is_same_port g.port port ≡ false) x xs h)

given_none : (ys : List Given) (port : PortId) → All (λ g. is_same_port g.port port ≡ false) ys → given_at ys port ≡ []
given_none [] port h = refl
given_none (y ∷ ys) port h = given_next y ys port (All-head (λ g. is_same_port g.port port ≡ false) y ys h)
    ∙ given_none ys port (All-tail (λ g. is_same_port g.port port ≡ false) y ys h)

given_front : (xs ys : List Given) (port : PortId) → All (λ g. is_same_port g.port port ≡ false) ys → given_at (xs ++ ys) port ≡ given_at xs port
given_front [] ys port h = given_none ys port h
given_front (x ∷ xs) ys port h = ⊎_elim
    (λ t. given_first x (xs ++ ys) port t ∙ sym (given_first x xs port t))
    (λ f. given_next x (xs ++ ys) port f ∙ given_front xs ys port h ∙ sym (given_next x xs port f))
    (cases_Bool (is_same_port x.port port))

other_node : (a b : PortId) → a.node ≢ b.node → is_same_port a b ≡ false
other_node a b ne = rw (ne_eqb a.node b.node ne) refl

other_port : (a b : PortId) → a.port ≢ b.port → is_same_port a b ≡ false
other_port a b ne = rw (ne_eqb a.port b.port ne) (⊎_elim (λ t. rw t refl) (λ f. rw f refl) (cases_Bool (a.node == b.node)))

same_port : (a b : PortId) → a.node ≡ b.node → a.port ≡ b.port → is_same_port a b ≡ true
same_port a b n p = rw (eq-eqb a.node b.node n, eq-eqb a.port b.port p) refl

-- what a node adds to the known samples
module _ (q : ℕ) (e : Epoch) (k : Kind) (wave : List ℤ) (node : ℕ) (r : Received) where
  g : ℕ → Given
  g o = given_by q e k wave node r o

  pub theirs : (a n : ℕ) (P : ℕ → Type 0) → P node → All (λ g. P g.port.node) (map (given_by q e k wave node r) (range_with_len a n))
  theirs a zero P p = All-nil (λ g. P g.port.node)
  theirs a (suc n) P p = All-cons (λ g. P g.port.node) (given_by q e k wave node r a)
      (map (given_by q e k wave node r) (range_with_len (a + 1) n)) p (theirs (a + 1) n P p)

  pub not_theirs : (a n : ℕ) (port : PortId) → port.node ≢ node
      → All (λ g. is_same_port g.port port ≡ false) (map (given_by q e k wave node r) (range_with_len a n))
  not_theirs a zero port ne = All-nil (λ g. is_same_port g.port port ≡ false)
  not_theirs a (suc n) port ne =
      All-cons (λ g. is_same_port g.port port ≡ false) (given_by q e k wave node r a)
      (map (given_by q e k wave node r) (range_with_len (a + 1) n))
      (other_node (given_by q e k wave node r a).port port (λ s. ne (sym s))) (not_theirs (a + 1) n port ne)

  pub theirs_at : (a n o : ℕ) (port : PortId) → port.node ≡ node → port.port ≡ input_count k + o → a ≤ o → o < a + n
      → given_at (map (given_by q e k wave node r) (range_with_len a n)) port ≡ (given_by q e k wave node r o).samples
  theirs_at a zero o port is at low high = absurd (omega (arith, low, high))
  theirs_at a (suc n) o port is at low high = ⊎_elim
      (λ (s : a ≡ o).
      given_first (given_by q e k wave node r a) (map (given_by q e k wave node r) (range_with_len (a + 1) n)) port
      (same_port (given_by q e k wave node r a).port port (sym is) (ap (λ m. input_count k + m) s ∙ sym at))
      ∙ ap (λ m. (given_by q e k wave node r m).samples) s)
      (λ (ne : a ≢ o).
      given_next (given_by q e k wave node r a) (map (given_by q e k wave node r) (range_with_len (a + 1) n)) port
      (other_port (given_by q e k wave node r a).port port
      (λ s. ne (let t : input_count k + a ≡ input_count k + o = s ∙ at in omega arith)))
      ∙ theirs_at (a + 1) n o port is at (omega (arith, low, ne)) (omega (arith, high)))
      (cases_eq a o)

-- the kind function reads no stream of an input that the kind has not
pub inputs_same : (k : Kind) (wave : List ℤ) (frames channels : ℕ) (a b : List ℤ) (o : ℕ)
    → kind_output k (record {
      wave = wave;
      frames = frames;
      channels = channels;
      a = cond (nat_lt 0 (input_count k)) a [];
      b = cond (nat_lt 1 (input_count k)) b [];
    }) o
    ≡ kind_output k (record { wave = wave; frames = frames; channels = channels; a = a; b = b }) o
inputs_same Source wave frames channels a b o = refl
inputs_same (Square x y z w) wave frames channels a b o = refl
inputs_same (Gain x) wave frames channels a b o = refl
inputs_same (Mix2 x y) wave frames channels a b o = refl
inputs_same (Delay x) wave frames channels a b o = refl
inputs_same (Map x y) wave frames channels a b o = refl
inputs_same Split wave frames channels a b o = refl
inputs_same Sink wave frames channels a b o = refl
inputs_same Meter wave frames channels a b o = refl
inputs_same Dummy wave frames channels a b o = refl

-- a number that is no place of a node has no output
no_node : (nodes : List PlanNode) (n : ℕ) → length nodes ≤ n → unwrap_or (option_map (λ n. n.kind) (slice_get nodes n)) Dummy ≡ Dummy
no_node [] n h = refl
no_node (x ∷ xs) zero h = absurd (omega (arith, h))
no_node (x ∷ xs) (suc n) h = no_node xs n (omega (arith, h))

pub is_node : (plan : Plan) (port : PortId) → IsOutputOf plan port → length plan.nodes ≤ port.node → ⊥
is_node plan port out high =
    let kind : kind_at plan port.node ≡ Dummy = no_node plan.nodes port.node high in
    let none : port.port < port_count Dummy = subst (λ k. port.port < port_count k) kind out.1 in
    absurd (omega (arith, none))

-- the last quantum of the kind's function of all that an active node has received is what its output gives
pub given_is : (plan : Plan) (waves : List WavIn) (c : ℕ) (e : Epoch) → IsRenderable plan waves → epoch_at plan c ≡ Some e → (node o : ℕ)
    → takes_part e node ≡ true
    → (given_by plan.quantum e (kind_at plan node) (wave_of waves node) node
    (received_until plan (outputs plan waves) (suc c) node) o).samples
    ≡ outputs plan waves c (record { node = node; port = input_count (kind_at plan node) + o })
given_is plan waves c e renderable here node o on =
    let out = outputs plan waves in
    let k = kind_at plan node in
    let port : PortId = record { node = node; port = input_count k + o } in
    let channels : channels_at plan c port ≡ channels_of e.forms port = ap (λ o. channels_of (listed (λ e. e.forms) o) port) here in
    let active : is_active plan c node ≡ true = active_in plan c e node here ∙ on in
    let which : port.port - input_count k ≡ o = omega arith in
    let cycles : suc c ≡ c + 1 - 0 = omega arith in
    let ch = channels_of e.forms port in
    let a = stream_of plan out c (record { node = node; port = 0 }) in
    let b = stream_of plan out c (record { node = node; port = 1 }) in
    let frames : plan.quantum * length (filter (λ k. is_active plan k node) (range_with_len 0 (suc c)))
    ≡ plan.quantum * length (active_cycles plan 0 c node) =
    ap (λ n. plan.quantum * length (filter (λ k. is_active plan k node) (range_with_len 0 n))) cycles in
    ap (last_of (plan.quantum * ch))
    (inputs_same k (wave_of waves node) (plan.quantum * length (filter (λ k. is_active plan k node) (range_with_len 0 (suc c)))) ch a b o
    ∙ ap (λ n. kind_output k (let h : KindInputs = record { wave = wave_of waves node; frames = n; channels = ch; a = a; b = b } in h) o) frames)
    ∙ ap (λ n. last_of (plan.quantum * n) (kind_output k
    (let h : KindInputs = record {
      wave = wave_of waves node;
      frames = plan.quantum * length (active_cycles plan 0 c node);
      channels = n;
      a = a;
      b = b;
    } in h) o)) (sym channels)
    ∙ ap (λ m. last_of (plan.quantum * channels_at plan c port) (kind_output k (kind_inputs_at plan waves out c port) m)) (sym which)
    ∙ sym (outputs_solve plan waves renderable c port active)

record IsFeed (plan : Plan) (e : Epoch) (done : List ℕ) (node : ℕ) (port : PortId) (l : ShapeLink) : Type 0 where
  fits : IsFitting plan e l
  ready : l.delayed ≡ false → l.to.node ≡ node → is_among done l.from.node ≡ true
  into : is_same_port l.to port ≡ true

module _ (plan : Plan) (waves : List WavIn) (c : ℕ) (e : Epoch) (first : Bool) (starts : first ≡ (c == e.shape.first))
    (earlier : List Given) (at : IsCycle plan waves c e earlier) where
  epoch : IsRenderableEpoch plan e × (is_within e c ≡ true)
  epoch = known_epoch plan waves at.renderable c e at.here

  feeds : (done : List ℕ) (node : ℕ) (port : PortId) → MayFollow e done node
      → All (IsFeed plan e done node port) (filter (λ l. is_same_port l.to port) e.shape.links)
  feeds done node port may k d lt = record {
    fits = All-filter (λ l. is_same_port l.to port) (IsFitting plan e) e.shape.links epoch.0.links k d lt;
    ready = All-filter (λ l. is_same_port l.to port) (λ l. l.delayed ≡ false → l.to.node ≡ node → is_among done l.from.node ≡ true)
        e.shape.links may.ready k d lt;
    into = filter_passes (λ l. is_same_port l.to port) e.shape.links k d lt;
  }

  -- a late link brings what was known of the cycle before
  late_is : (n : ℕ) → n ≡ c → (l : ShapeLink) → IsFitting plan e l → c ≢ e.shape.first
      → given_at earlier l.from ≡ outputs plan waves (n - 1) l.from
  late_is zero is l fits ne =
      let parts = and_parts (nat_le e.shape.first c) (nat_lt c (e.shape.first + e.shape.cycles)) epoch.1 in
      absurd (ne (omega (arith, leb-true e.shape.first c parts.0, is)))
  late_is (suc k) is l fits ne =
      let same : suc k - 1 ≡ k = omega arith in
      let here : epoch_at plan k ≡ Some e = before 0 plan.epochs k e at.renderable.numbered (ap (epoch_at plan) is ∙ at.here)
      (λ s. ne (sym is ∙ s)) in
      let on : is_active plan k l.from.node ≡ true = active_in plan k e l.from.node here ∙ takes e l.from.node fits.from_active in
      at.told k is l.from on fits.from_output ∙ sym (ap (λ n. outputs plan waves n l.from) same)

  brought_is : (done : List ℕ) (received : List Received) (now : List Given) → IsUnderWay plan waves c done received now
      → (node i : ℕ) (l : ShapeLink)
      → IsFeed plan e done node (record { node = node; port = i }) l
      → brought_by plan.quantum first earlier now l ≡ brought plan (outputs plan waves) c l
  brought_is done received now way node i l feed =
      let start : first_at plan c ≡ e.shape.first = ap (λ o. unwrap_or (option_map (λ e. e.shape.first) o) 0) at.here in
      let begins : first ≡ (c == first_at plan c) = starts ∙ ap (λ n. c == n) (sym start) in
      ⊎_elim
      (λ (t : l.delayed ≡ true). ⊎_elim
      (λ (s : (c == first_at plan c) ≡ true). rw (t, begins, s) refl)
      (λ (s : (c == first_at plan c) ≡ false). rw (t, begins, s)
      (late_is c refl l feed.fits (λ z. false≢true (sym s ∙ eq-eqb c (first_at plan c) (z ∙ sym start)))))
      (cases_Bool (c == first_at plan c)))
      (λ (f : l.delayed ≡ false).
      let to : l.to.node ≡ node = eqb-true l.to.node node (and_parts (l.to.node == node) (l.to.port == i) feed.into).0 in
      rw f (way.told l.from (feed.ready f to) feed.fits.from_output))
      (cases_Bool l.delayed)

  -- the inputs of a node that may follow
  input_is : (done : List ℕ) (received : List Received) (now : List Given) → IsUnderWay plan waves c done received now → (node : ℕ)
      → MayFollow e done node → (i : ℕ)
      → input_by plan.quantum first earlier now e (record { node = node; port = i })
      ≡ input_of plan (outputs plan waves) c (record { node = node; port = i })
  input_is done received now way node may i =
      let port : PortId = record { node = node; port = i } in
      let out = outputs plan waves in
      let ls = filter (λ l. is_same_port l.to port) e.shape.links in
      let links : links_into plan c port ≡ ls = ap (λ o. filter (λ l. is_same_port l.to port) (listed (λ e. e.shape.links) o)) at.here in
      let channels : channels_at plan c port ≡ channels_of e.forms port = ap (λ o. channels_of (listed (λ e. e.forms) o) port) at.here in
      let all : All (λ l. brought_by plan.quantum first earlier now l ≡ brought plan out c l) ls =
      λ k d lt. brought_is done received now way node i (get_or ls k d) (feeds done node port may k d lt) in
      ap (λ rows. map clamped (fold summed (silence (plan.quantum * channels_of e.forms port)) rows))
      (map_agree (λ l. brought_by plan.quantum first earlier now l) (λ l. brought plan out c l) ls all)
      ∙ ap₂ (λ n ks. map clamped (fold summed (silence (plan.quantum * n)) (map (λ l. brought plan out c l) ks))) (sym channels) (sym links)

  -- what a node receives
  received_is : (done : List ℕ) (received : List Received) (now : List Given) → IsUnderWay plan waves c done received now → (node : ℕ)
      → node < length plan.nodes → MayFollow e done node
      → received_more plan.quantum first earlier now e (kind_at plan node) node (get_or received node nothing)
      ≡ received_until plan (outputs plan waves) (suc c) node
  received_is done received now way node lt may =
      ap (λ r. received_more plan.quantum first earlier now e (kind_at plan node) node r) (way.waiting node lt may.other)
      ∙ received_active plan (outputs plan waves) c node first earlier now e (active_in plan c e node at.here ∙ may.active)
      (input_is done received now way node may)

  -- one node more is done
  pub one_more : (done : List ℕ) (received later : List Received) (now more : List Given) (node : ℕ)
      → IsUnderWay plan waves c done received now → node < length plan.nodes → MayFollow e done node
      → later ≡ set received node (received_more plan.quantum first earlier now e (kind_at plan node) node (get_or received node nothing))
      → more ≡ now ++ all_given_by plan.quantum e (kind_at plan node) (wave_of waves node) node
      (received_more plan.quantum first earlier now e (kind_at plan node) node (get_or received node nothing))
      → IsUnderWay plan waves c (done ++ node ∷ []) later more
  one_more done received later now more node way lt may is_later is_more =
      let out = outputs plan waves in
      let k = kind_at plan node in
      let here : received_more plan.quantum first earlier now e k node (get_or received node nothing)
      ≡ received_until plan out (suc c) node = received_is done received now way node lt may in
      let r = received_until plan out (suc c) node in
      let n = output_count k in
      let lists : more ≡ now ++ map (given_by plan.quantum e k (wave_of waves node) node r) (range_with_len 0 n) = is_more
      ∙ ap (λ r. now ++ all_given_by plan.quantum e k (wave_of waves node) node r) here in
      let sets : later ≡ set received node r = is_later ∙ ap (set received node) here in
      record {
        counted = ap length sets ∙ simp length-set way.counted;
        worked = λ m small among. ⊎_elim
            (λ (same : m ≡ node). ap₂ (λ rs j. get_or rs j nothing) sets same
            ∙ get_or-set_same received node r nothing (omega (arith, way.counted)) ∙ ap (received_until plan out (suc c)) (sym same))
            (λ (ne : m ≢ node). ap (λ rs. get_or rs m nothing) sets ∙ get_or-set_other received node m r nothing ne
            ∙ way.worked m small (sym (among_other done node m ne) ∙ among))
            (cases_eq m node);
        waiting = λ m small among. ⊎_elim
            (λ (same : m ≡ node). absurd (false≢true (sym among ∙ among_last done node m (sym same))))
            (λ (ne : m ≢ node). ap (λ rs. get_or rs m nothing) sets ∙ get_or-set_other received node m r nothing ne
            ∙ way.waiting m small (sym (among_other done node m ne) ∙ among))
            (cases_eq m node);
        only = subst (All (λ g. is_among (done ++ node ∷ []) g.port.node ≡ true)) (sym lists)
            (All-append (λ g. is_among (done ++ node ∷ []) g.port.node ≡ true) now
            (map (given_by plan.quantum e k (wave_of waves node) node r) (range_with_len 0 n))
            (λ i d small. among_kept done node (get_or now i d).port.node (way.only i d small))
            (theirs plan.quantum e k (wave_of waves node) node r 0 n (λ m. is_among (done ++ node ∷ []) m ≡ true)
            (among_last done node node refl)));
        told = λ port among is_out. ⊎_elim
            (λ (same : port.node ≡ node).
            let o = port.port - input_count k in
            let kind : kind_at plan port.node ≡ k = ap (kind_at plan) same in
            let low : input_count k ≤ port.port = subst (λ k. input_count k ≤ port.port) kind is_out.0 in
            let high : port.port < port_count k = subst (λ k. port.port < port_count k) kind is_out.1 in
            let apart : port.port ≡ input_count k + o = omega (arith, low) in
            ap (λ gs. given_at gs port) lists
            ∙ given_skip now (map (given_by plan.quantum e k (wave_of waves node) node r) (range_with_len 0 n)) port
            (λ i d small. other_node (get_or now i d).port port
            (λ s. false≢true (sym may.other ∙ ap (is_among done) (sym same ∙ sym s) ∙ way.only i d small)))
            ∙ theirs_at plan.quantum e k (wave_of waves node) node r 0 n o port same apart (omega arith) (omega (arith, low, high))
            ∙ given_is plan waves c e at.renderable at.here node o may.active
            ∙ ap₂ (λ a b. outputs plan waves c (record { node = a; port = b })) (sym same) (sym apart))
            (λ (ne : port.node ≢ node).
            ap (λ gs. given_at gs port) lists
            ∙ given_front now (map (given_by plan.quantum e k (wave_of waves node) node r) (range_with_len 0 n)) port
            (not_theirs plan.quantum e k (wave_of waves node) node r 0 n port ne)
            ∙ way.told port (sym (among_other done node port.node ne) ∙ among) is_out)
            (cases_eq port.node node);
      }

-- a number that is no place of a node is done without work
pub none_more : (plan : Plan) (waves : List WavIn) (c : ℕ) (done : List ℕ) (received : List Received) (now : List Given) (node : ℕ)
    → IsUnderWay plan waves c done received now → length plan.nodes ≤ node
    → IsUnderWay plan waves c (done ++ node ∷ []) received now
none_more plan waves c done received now node way high = record {
  counted = way.counted;
  worked = λ m small among. way.worked m small (sym (among_other done node m (λ s. omega (arith, s, small, high))) ∙ among);
  waiting = λ m small among. way.waiting m small (sym (among_other done node m (λ s. omega (arith, s, small, high))) ∙ among);
  only = λ i d small. among_kept done node (get_or now i d).port.node (way.only i d small);
  told = λ port among is_out. ⊎_elim
      (λ (same : port.node ≡ node). absurd (is_node plan port is_out (omega (arith, same, high))))
      (λ (ne : port.node ≢ node). way.told port (sym (among_other done node port.node ne) ∙ among) is_out)
      (cases_eq port.node node);
}

-- before the first node nothing is done
pub none_done : (plan : Plan) (waves : List WavIn) (c : ℕ) (received : List Received)
    → AreReceived (length plan.nodes) (received_before plan (outputs plan waves) c) received → IsUnderWay plan waves c [] received []
none_done plan waves c received h = record {
  counted = h.counted;
  worked = λ n small among. absurd (false≢true among);
  waiting = λ n small among. h.each n small;
  only = All-nil (λ g. is_among [] g.port.node ≡ true);
  told = λ port among is_out. absurd (false≢true among);
}

-- after the last node all is received and known
pub all_done : (plan : Plan) (waves : List WavIn) (c : ℕ) (e : Epoch) (order : List ℕ) (received : List Received) (now : List Given)
    → epoch_at plan c ≡ Some e → IsWhole e order
    → IsUnderWay plan waves c order received now → AreReceived (length plan.nodes)
    (received_until plan (outputs plan waves) (suc c)) received × TellsCycle plan (outputs plan waves) c now
all_done plan waves c e order received now at whole way = (
  record {
    counted = way.counted;
    each = λ n small. ⊎_elim
        (λ (t : is_among order n ≡ true). way.worked n small t)
        (λ (f : is_among order n ≡ false).
        let idle : is_active plan c n ≡ false = active_in plan c e n at
        ∙ ⊎_elim (λ (on : takes_part e n ≡ true). absurd (false≢true (sym f ∙ whole n on))) (λ (off : takes_part e n ≡ false). off)
        (cases_Bool (takes_part e n)) in
        way.waiting n small f ∙ received_idle plan (outputs plan waves) c n idle)
        (cases_Bool (is_among order n));
  },
  λ port on is_out. way.told port (whole port.node (sym (active_in plan c e port.node at) ∙ on)) is_out,
)

-- one node more of an order
pub next_more : (plan : Plan) (waves : List WavIn) (c : ℕ) (e : Epoch) (first : Bool) (starts : first ≡ (c == e.shape.first))
    (earlier : List Given) (order : List ℕ) (i node : ℕ) (received later : List Received) (now more : List Given)
    → IsCycle plan waves c e earlier → IsOrder e order → i < length order → node ≡ get_or order i 0 → node < length plan.nodes
    → IsUnderWay plan waves c (take i order) received now
    → later ≡ set received node (received_more plan.quantum first earlier now e (kind_at plan node) node (get_or received node nothing))
    → more ≡ now ++ all_given_by plan.quantum e (kind_at plan node) (wave_of waves node) node
    (received_more plan.quantum first earlier now e (kind_at plan node) node (get_or received node nothing))
    → IsUnderWay plan waves c (take (i + 1) order) later more
next_more plan waves c e first starts earlier order i node received later now more at is_order lt is small way is_later is_more =
    let same : get_or order i 0 ≡ node = sym is in
    let may : MayFollow e (take i order) node = subst (MayFollow e (take i order)) same (is_order i lt) in
    let front : take (i + 1) order ≡ take i order ++ node ∷ [] = take_more order i 0 lt ∙ ap (λ n. take i order ++ n ∷ []) same in
    subst (λ done. IsUnderWay plan waves c done later more) (sym front)
    (one_more plan waves c e first starts earlier at (take i order) received later now more node way small may is_later is_more)

pub skip_more : (plan : Plan) (waves : List WavIn) (c : ℕ) (order : List ℕ) (i node : ℕ) (received : List Received) (now : List Given)
    → i < length order → node ≡ get_or order i 0 → length plan.nodes ≤ node → IsUnderWay plan waves c (take i order) received now
    → IsUnderWay plan waves c (take (i + 1) order) received now
skip_more plan waves c order i node received now lt is high way =
    let same : get_or order i 0 ≡ node = sym is in
    let front : take (i + 1) order ≡ take i order ++ node ∷ [] = take_more order i 0 lt ∙ ap (λ n. take i order ++ n ∷ []) same in
    subst (λ done. IsUnderWay plan waves c done received now) (sym front) (none_more plan waves c (take i order) received now node way high)

-- the kind of a node that is there
pub kind_there : (nodes : List PlanNode) (n : ℕ) (d : PlanNode) → n < length nodes
    → unwrap_or (option_map (λ n. n.kind) (slice_get nodes n)) Dummy ≡ (get_or nodes n d).kind
kind_there [] n d lt = absurd (omega arith)
kind_there (x ∷ xs) zero d lt = refl
kind_there (x ∷ xs) (suc n) d lt = kind_there xs n d (omega arith)

-- what the order of an epoch's nodes needs
pub record HasOrderNeeds (e : Epoch) : Type 0 where
  pub within : All IsWithinNodes e.shape.links
  pub small : (n : ℕ) → takes_part e n ≡ true → n < 64
  pub ordered : HasOrder e.shape.links
  pub active : All (λ l. takes_part e l.from.node ≡ true) e.shape.links

pub order_needs : (plan : Plan) (waves : List WavIn) (c : ℕ) (e : Epoch) → IsRenderable plan waves → epoch_at plan c ≡ Some e
    → HasOrderNeeds e
order_needs plan waves c e r at =
    let q = (known_epoch plan waves r c e at).0 in
    let small = node_small plan waves r e q in
    record {
      within = λ k d lt. (small _ (takes e _ (q.links k d lt).from_active), small _ (takes e _ (q.links k d lt).to_active));
      small = small;
      ordered = q.order;
      active = λ k d lt. takes e _ (q.links k d lt).from_active;
    }

-- in no epoch no node is active
pub idle_in_none : (plan : Plan) (c node : ℕ) → epoch_at plan c ≡ None → is_active plan c node ≡ false
idle_in_none plan c node at = ap (λ o. list_any (λ n. n == node) (listed (λ e. map (λ n. n.node) e.shape.nodes) o)) at

-- a cycle of no epoch changes nothing
pub idle_cycle : (plan : Plan) (waves : List WavIn) (c : ℕ) (received : List Received) → epoch_at plan c ≡ None
    → AreReceived (length plan.nodes) (received_before plan (outputs plan waves) c) received
    → AreReceived (length plan.nodes) (received_until plan (outputs plan waves) (suc c)) received
idle_cycle plan waves c received at h = record {
  counted = h.counted;
  each = λ n small. h.each n small
      ∙ received_idle plan (outputs plan waves) c n (idle_in_none plan c n at);
}

pub idle_tells : (plan : Plan) (waves : List WavIn) (c : ℕ) (now : List Given) → epoch_at plan c ≡ None
    → TellsCycle plan (outputs plan waves) c now
idle_tells plan waves c now at port on is_out = absurd (false≢true (sym (idle_in_none plan c port.node at) ∙ on))

-- released streams, for all nodes
pub released_all : (plan : Plan) (waves : List WavIn) (c : ℕ) (old new : List Received) → FollowFrom 0 plan.epochs
    → AreReceived (length plan.nodes) (received_until plan (outputs plan waves) c) old → length new ≡ length old
    → ((n : ℕ) → n < length old → get_or new n nothing
    ≡ cond (is_released plan.epochs c n) (released (get_or old n nothing)) (get_or old n nothing))
    → AreReceived (length plan.nodes) (received_before plan (outputs plan waves) c) new
released_all plan waves c old new follow h long each = record {
  counted = long ∙ h.counted;
  each = λ n small. each n (omega (arith, h.counted)) ∙ ap (λ r. cond (is_released plan.epochs c n) (released r) r) (h.each n small)
      ∙ sym (released_is plan (outputs plan waves) c n follow);
}

-- before the first cycle
pub received_first : (plan : Plan) (waves : List WavIn) (received : List Received)
    → AreReceived (length plan.nodes) (λ node. nothing) received
    → AreReceived (length plan.nodes) (received_until plan (outputs plan waves) 0) received
received_first plan waves received h = record {
  counted = h.counted;
  each = λ n small.
      let none : List ℤ = [] in
      let empty : (b : Bool) → none ≡ cond b none none = λ b. ⊎_elim (λ t. rw t refl) (λ f. rw f refl) (cases_Bool b) in
      let zero_frames : 0 ≡ plan.quantum * 0 = omega arith in
      h.each n small ∙ (λ i. record {
        frames = zero_frames i;
        a = empty (nat_lt 0 (input_count (kind_at plan n))) i;
        b = empty (nat_lt 1 (input_count (kind_at plan n))) i;
      });
}

pub tells_none : (plan : Plan) (waves : List WavIn) (given : List Given) → TellsBefore plan (outputs plan waves) 0 given
tells_none plan waves given k e = absurd (omega arith)

pub tells_next : (plan : Plan) (waves : List WavIn) (c n : ℕ) (given : List Given) → n ≡ suc c
    → TellsCycle plan (outputs plan waves) c given → TellsBefore plan (outputs plan waves) n given
tells_next plan waves c n given is h k e = let same : k ≡ c = omega arith in
    subst (λ m. TellsCycle plan (outputs plan waves) m given) (sym same) h

-- one more that has received nothing
pub nothing_more : (received more : List Received) (n : ℕ) → AreReceived n (λ node. nothing) received → more ≡ received ++ nothing ∷ []
    → AreReceived (n + 1) (λ node. nothing) more
nothing_more received more n h e = record {
  counted = ap length e ∙ length-append received (nothing ∷ []) ∙ ap (λ k. k + 1) h.counted;
  each = λ k lt. ap (λ rs. get_or rs k nothing) e ∙ ⊎_elim
      (λ (low : k < length received). get_or_append_left received (nothing ∷ []) nothing k low ∙ h.each k (omega (arith, h.counted, low)))
      (λ (high : length received ≤ k).
      let last : k - length received ≡ 0 = omega (arith, h.counted, lt, high) in
      get_or-append_right received (nothing ∷ []) (length received) k nothing refl high ∙ ap (λ j. get_or (nothing ∷ []) j nothing) last)
      (cases_lt k (length received));
}

-- the order is worked to its end
pub all_worked : (plan : Plan) (waves : List WavIn) (c : ℕ) (e : Epoch) (earlier : List Given) (order : List ℕ) (i : ℕ)
    (received : List Received) (now : List Given) → IsCycle plan waves c e earlier → IsWhole e order
    → length order ≤ i → IsUnderWay plan waves c (take i order) received now
    → AreReceived (length plan.nodes) (received_until plan (outputs plan waves) (suc c)) received
    × TellsCycle plan (outputs plan waves) c now
all_worked plan waves c e earlier order i received now at whole past way =
    all_done plan waves c e order received now at.here whole
    (subst (λ ns. IsUnderWay plan waves c ns received now) (take_all i order past) way)
