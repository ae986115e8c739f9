-- A sound graph has one epoch of a number of cycles, and one graph after it.
use Rattle.std.proofs.Common.{◌≡◌, ◌⊎◌, inl, inr, ℕ, zero, suc, ◌+◌, ◌<◌, List, [], ◌∷◌, ◌++◌, length, filter, Bool, false}
use Rattle.std.proofs.Common.{not, ◌&&◌, ◌||◌, ◌==◌, Some, refl, sym, ap, ◌∙◌, subst, arith}
use Rattle.std.specs.Prelude.{Contains, IsTrue, nat_lt}
use Rattle.std.specs.List.{AllZip, list_any}
use Rattle.std.proofs.lemmas.Bool.{or_cases, and_parts, cases_lt, ltb-true, eqb-true}
use Rattle.std.proofs.lemmas.Option.{none-some, same_Some}
use Rattle.std.proofs.lemmas.List.{same_lists, get_or_default}
use Rattle.std.proofs.lemmas.List.Kept.{AllPairs-from_increasing}
use Rattle.pw_graph.specs.declared.ids.PortId.{PortId}
use Rattle.pw_graph.specs.declared.kind.Kind.{Kind}
use Rattle.pw_graph.specs.declared.plan.Epoch.{Epoch}
use Rattle.pw_graph.specs.declared.plan.Fresh.{Fresh}
use Rattle.pw_graph.specs.declared.plan.PortForm.{PortForm}
use Rattle.pw_graph.specs.declared.shape.Shape.{Shape}
use Rattle.pw_graph.specs.declared.shape.ShapeLink.{ShapeLink}
use Rattle.pw_graph.specs.declared.shape.ShapeNode.{ShapeNode}
use Rattle.pw_lists.specs.declared.limit.Which.{Which}
use Rattle.pw_graph.specs.Dependencies.{nodes_of, joins}
use Rattle.pw_graph.specs.Pools.{is_before}
use Rattle.pw_graph.specs.SoundShape.{IsCounted}
use Rattle.wav_files.specs.declared.wav.WavIn.{WavIn}
use Rattle.graph_lines.specs.declared.graph.Graph.{Graph}
use Rattle.graph_lines.specs.declared.graph.Stepped.{Stepped}
use Rattle.graph_lines.specs.declared.graph.Stepped.TheVariants as T
use Rattle.graph_lines.specs.declared.standing.Standing.{Standing}
use Rattle.graph_lines.specs.declared.wire.Wire.{Wire}
use Rattle.graph_lines.specs.Activity.{standing, nobody, is_live, live_wires, IsDriver, IsActive}
use Rattle.graph_lines.specs.Draining.{IsLeft, DrainsFor}
use Rattle.graph_lines.specs.Epochs.{is_used, IsLinkOf, IsEpochOf}
use Rattle.graph_lines.specs.EpochLines.{cycles_in, is_formed_sink, StandsAfter, IsAfter, IsTaken, RunsFor}
use Rattle.graph_lines.specs.Sums.{sums_with}
use Rattle.graph_plan.specs.working.SoundGraph.{IsSoundGraph}
use Rattle.graph_plan.proofs.sound.FormLemmas.{one_form}
use Rattle.graph_plan.proofs.sound.SoundGraphLemmas.{one_channels}
use Rattle.graph_plan.proofs.lists.SameListLemmas.{same_sorted, same_zip, same_by}

-- THE DRIVER
driver_one : (kinds : List Kind) (said : List Standing) (d f : ℕ) → IsDriver kinds said d → IsDriver kinds said f → d ≡ f
driver_one kinds said d f (inl h) (inl k) = h.1 ∙ sym k.1
driver_one kinds said d f (inl h) (inr k) = absurd (none-some k.0 (sym (h.0 f) ∙ k.1.0))
driver_one kinds said d f (inr h) (inl k) = absurd (none-some h.0 (sym (k.0 d) ∙ h.1.0))
driver_one kinds said d f (inr h) (inr k) = elim (h.1.1 f k.0 k.1.0) [
  | inl less ↦ elim (k.1.1 d h.0 h.1.0) [ inl more ↦ absurd (omega (arith, less, more)) | inr same ↦ absurd (omega (arith, less, same.0)) ]
  | inr one ↦ elim (k.1.1 d h.0 h.1.0) [ inl more ↦ absurd (omega (arith, one.0, more)) | inr two ↦ omega (arith, one.1, two.1) ]
]

-- what a node waits for, and what waits for it, by the driver, the links and the numbers of the nodes
abbrev required_by : ℕ → List ShapeLink → List ℕ → ℕ → ℕ
required_by d ls ns m = length (filter (λ i. (i == d) || ((m == d) || list_any (joins i m) ls)) ns)

abbrev targets_by : ℕ → List ShapeLink → List ℕ → ℕ → List ℕ
targets_by d ls ns m = filter (λ i. not (i == d) && ((m == d) || ((i == d) || list_any (joins m i) ls))) ns ++ d ∷ []

-- orders
before_apart : (p q : PortId) → IsTrue (is_before p q) → IsTrue (is_before q p) → ⊥
before_apart p q a b = go (parts p q a) (parts q p b) where
  parts : (x y : PortId) → IsTrue (is_before x y) → (x.node < y.node) ⊎ ((x.node ≡ y.node) × (x.port < y.port))
  parts x y h = elim (or_cases (nat_lt x.node y.node) ((x.node == y.node) && nat_lt x.port y.port) h) [
    | inl l ↦ inl (ltb-true x.node y.node l)
    | inr w ↦ let v = and_parts (x.node == y.node) (nat_lt x.port y.port) w in inr (eqb-true x.node y.node v.0, ltb-true x.port y.port v.1)
  ]

  go : (p.node < q.node) ⊎ ((p.node ≡ q.node) × (p.port < q.port)) → (q.node < p.node) ⊎ ((q.node ≡ p.node) × (q.port < p.port)) → ⊥
  go (inl l) (inl m) = omega (arith, l, m)
  go (inl l) (inr m) = omega (arith, l, m.0)
  go (inr l) (inl m) = omega (arith, l.0, m)
  go (inr l) (inr m) = omega (arith, l.1, m.1)

module _ (count : ℕ) (g : Graph) (sound : IsSoundGraph count g) where
  -- A LINK of the epoch
  link_one : (w : Wire) (k l : ShapeLink) → IsLinkOf g w k → IsLinkOf g w l → k ≡ l
  link_one w k l h i =
      let c = (one_form g.ports sound.ports w.from h.rate k.channels i.rate l.channels h.form i.form).1 in
      let a = h.from ∙ sym i.from in
      let b = h.to ∙ sym i.to in
      let d = h.buffers ∙ sym i.buffers in
      let e = h.delayed ∙ sym i.delayed in
      ap (λ (x : PortId). record { from = x; to = k.to; channels = k.channels; buffers = k.buffers; delayed = k.delayed }) a
      ∙ (ap (λ (x : PortId). record { from = l.from; to = x; channels = k.channels; buffers = k.buffers; delayed = k.delayed }) b
      ∙ (ap (λ (x : ℕ). record { from = l.from; to = l.to; channels = x; buffers = k.buffers; delayed = k.delayed }) c
      ∙ (ap (λ (x : ℕ). record { from = l.from; to = l.to; channels = l.channels; buffers = x; delayed = k.delayed }) d
      ∙ ap (λ (x : Bool). record { from = l.from; to = l.to; channels = l.channels; buffers = l.buffers; delayed = x }) e)))

  module _ (n : ℕ) (e f : Epoch) (h : IsEpochOf g n e) (k : IsEpochOf g n f) where
    drives : e.shape.driver ≡ f.shape.driver
    drives = driver_one g.kinds g.nodes e.shape.driver f.shape.driver h.nodes.driver k.nodes.driver

    numbers : nodes_of e.shape ≡ nodes_of f.shape
    numbers = same_sorted (λ (x y : ℕ). x < y) (λ x y a b. omega (arith, a, b)) (nodes_of e.shape) (nodes_of f.shape)
        (AllPairs-from_increasing (nodes_of e.shape) h.nodes.ascend) (AllPairs-from_increasing (nodes_of f.shape) k.nodes.ascend)
        (λ z w. (k.nodes.active z).1 (subst (λ (d : ℕ). IsActive (live_wires g.nodes g.wires) d z) drives ((h.nodes.active z).0 w)))
        (λ z w. (h.nodes.active z).1 (subst (λ (d : ℕ). IsActive (live_wires g.nodes g.wires) d z) (sym drives) ((k.nodes.active z).0 w)))

    used : filter (is_used g e.shape) g.wires ≡ filter (is_used g f.shape) g.wires
    used = ap (λ (ns : List ℕ). filter (λ (w : Wire). is_live g.nodes w && (list_any (λ m. m == w.from.node) ns && list_any (λ m. m == w.to.node) ns)) g.wires)
        numbers

    links : e.shape.links ≡ f.shape.links
    links = same_zip (IsLinkOf g) link_one (filter (is_used g f.shape) g.wires) e.shape.links f.shape.links
        (subst (λ (ws : List Wire). AllZip (IsLinkOf g) ws e.shape.links) used h.links) k.links

    -- a node with its counts
    node_one : (x y : ShapeNode) → x.node ≡ y.node → IsCounted e.shape x → IsCounted f.shape y → x ≡ y
    node_one x y same a b = ap (λ (m : ℕ). record { node = m; required = x.required; targets = x.targets }) same
        ∙ (ap (λ (m : ℕ). record { node = y.node; required = m; targets = x.targets }) (a.0 ∙ (required ∙ sym b.0))
        ∙ ap (λ (ts : List ℕ). record { node = y.node; required = y.required; targets = ts }) (a.1 ∙ (targets ∙ sym b.1)))
      where
        required : required_by e.shape.driver e.shape.links (nodes_of e.shape) x.node ≡ required_by f.shape.driver f.shape.links (nodes_of f.shape) y.node
        required = ap (λ (d : ℕ). required_by d e.shape.links (nodes_of e.shape) x.node) drives
            ∙ (ap (λ (ls : List ShapeLink). required_by f.shape.driver ls (nodes_of e.shape) x.node) links
            ∙ (ap (λ (ns : List ℕ). required_by f.shape.driver f.shape.links ns x.node) numbers
            ∙ ap (required_by f.shape.driver f.shape.links (nodes_of f.shape)) same))

        targets : targets_by e.shape.driver e.shape.links (nodes_of e.shape) x.node ≡ targets_by f.shape.driver f.shape.links (nodes_of f.shape) y.node
        targets = ap (λ (d : ℕ). targets_by d e.shape.links (nodes_of e.shape) x.node) drives
            ∙ (ap (λ (ls : List ShapeLink). targets_by f.shape.driver ls (nodes_of e.shape) x.node) links
            ∙ (ap (λ (ns : List ℕ). targets_by f.shape.driver f.shape.links ns x.node) numbers
            ∙ ap (targets_by f.shape.driver f.shape.links (nodes_of f.shape)) same))

    nodes : e.shape.nodes ≡ f.shape.nodes
    nodes = same_by (λ (x : ShapeNode). x.node) (IsCounted e.shape) (IsCounted f.shape) node_one e.shape.nodes f.shape.nodes numbers h.nodes.counts
        k.nodes.counts

    shape : e.shape ≡ f.shape
    shape = ap (λ (x : ℕ). record e.shape { quantum = x }) (h.quantum ∙ sym k.quantum)
        ∙ (ap (λ (x : ℕ). record e.shape { quantum = f.shape.quantum; first = x }) (h.first ∙ sym k.first)
        ∙ (ap (λ (x : ℕ). record e.shape { quantum = f.shape.quantum; first = f.shape.first; cycles = x }) (h.cycles ∙ sym k.cycles)
        ∙ (ap (λ (x : ℕ). record f.shape { driver = x; nodes = e.shape.nodes; links = e.shape.links }) drives
        ∙ (ap (λ (xs : List ShapeNode). record f.shape { nodes = xs; links = e.shape.links }) nodes
        ∙ ap (λ (xs : List ShapeLink). record f.shape { links = xs }) links))))

    forms : e.forms ≡ f.forms
    forms = same_sorted (λ (x y : PortForm). IsTrue (is_before x.port y.port)) (λ x y a b. before_apart x.port y.port a b) e.forms f.forms
        h.forms.ascend k.forms.ascend
        (λ z w. let o = (h.forms.each z.port z.rate z.channels).0 w in
        (k.forms.each z.port z.rate z.channels).1 (subst (λ (ns : List ℕ). Contains ns z.port.node) numbers o.0, o.1))
        (λ z w. let o = (k.forms.each z.port z.rate z.channels).0 w in
        (h.forms.each z.port z.rate z.channels).1 (subst (λ (ns : List ℕ). Contains ns z.port.node) (sym numbers) o.0, o.1))

    fresh : e.fresh ≡ f.fresh
    fresh = same_sorted (λ (x y : Fresh). x.node < y.node) (λ x y a b. omega (arith, a, b)) e.fresh f.fresh h.fresh.ascend k.fresh.ascend
        (λ z w. (k.fresh.each z.node z.channels).1 ((h.fresh.each z.node z.channels).0 w))
        (λ z w. (h.fresh.each z.node z.channels).1 ((k.fresh.each z.node z.channels).0 w))

    -- ONE EPOCH
    pub epoch_one : e ≡ f
    epoch_one = ap (λ (s : Shape). record e { shape = s }) shape
        ∙ (ap (λ (xs : List PortForm). record e { shape = f.shape; forms = xs }) forms
        ∙ ap (λ (xs : List Fresh). record f { fresh = xs }) fresh)

  -- what is said after it
  said_one : (e : Epoch) (m : ℕ) (s t : Standing) → StandsAfter g e m s → StandsAfter g e m t → s ≡ t
  said_one e m s t h k = h.rest
      ∙ (ap (λ (c : ℕ). record (standing g.nodes m) {
        gave_up = false;
        told = c;
        kept = (standing g.nodes m).kept || is_formed_sink g e m;
        ran = (standing g.nodes m).ran + cycles_in e m;
      }) (one_channels count g sound m s.told t.told h.told k.told) ∙ sym k.rest)

  pub after_one : (e : Epoch) (a b : Graph) → IsAfter g e a → IsAfter g e b → a ≡ b
  after_one e a b h k = h.same
      ∙ (ap (λ (ns : List Standing). record g {
        epochs = g.epochs ++ e ∷ [];
        first = g.first + e.shape.cycles;
        sums = sums_with g.kinds g.sums e;
        nodes = ns;
      }) nodes ∙ sym k.same) where
        nodes : a.nodes ≡ b.nodes
        nodes = same_lists a.nodes b.nodes (h.many ∙ sym k.many) (λ m d l.
            let in' : m < length g.nodes = (let e' = h.many in omega (arith, l, e')) in
            get_or_default a.nodes m d nobody l ∙ (said_one e m (standing a.nodes m) (standing b.nodes m) (h.nodes m in') (k.nodes m in')
            ∙ get_or_default b.nodes m nobody d (let e' = k.many in omega (arith, in', e'))))

  -- one graph after a line that runs for some cycles
  pub runs_one : (n : ℕ) (s t : Stepped) (a b : Graph) → RunsFor g n s a → RunsFor g n t b → (s ≡ t) × (s ≡ T.Done → a ≡ b)
  runs_one zero s t a b h k = (h.0 ∙ sym k.0, λ e. h.1 ∙ sym k.1)
  runs_one (suc n) s t a b h k = go s t h.2 (subst (λ (e : Epoch). IsTaken g e t b) (sym (epoch_one (suc n) h.0 k.0 h.1 k.1)) k.2) where
    differ : (w : Which) → T.Passed w ≡ T.Done → ⊥
    differ w e = cc

    same_which : (v w : Which) → Some v ≡ Some w → T.Passed v ≡ T.Passed w
    same_which v w e = ap T.Passed (same_Some v w e)

    go : (s t : Stepped) → IsTaken g h.0 s a → IsTaken g h.0 t b → (s ≡ t) × (s ≡ T.Done → a ≡ b)
    go T.Done T.Done x y = (refl, λ e. after_one h.0 a b x.1 y.1)
    go T.Done (T.Passed w) x y = absurd (none-some w (sym x.0 ∙ y))
    go (T.Passed v) T.Done x y = absurd (none-some v (sym y.0 ∙ x))
    go (T.Passed v) (T.Passed w) x y = (same_which v w (sym x ∙ y), λ e. absurd (differ v e))

  -- the cycles of a drain
  pub drain_one : (waves : List WavIn) (m n : ℕ) → DrainsFor waves g m → DrainsFor waves g n → m ≡ n
  drain_one waves m n h k = elim (cases_lt m n) [
    | inl below ↦ absurd (fewer m n h k below)
    | inr rest ↦ elim (cases_lt n m) [ inl below ↦ absurd (fewer n m k h below) | inr more ↦ omega (arith, rest, more) ]
  ] where
    fewer : (few many : ℕ) → DrainsFor waves g few → DrainsFor waves g many → few < many → ⊥
    fewer few many h k l =
        let same = driver_one g.kinds g.nodes k.driver h.driver k.drives h.drives in
        let bound = h.enough many (subst (λ (d : ℕ). IsLeft waves g d many) same (k.needed (omega (arith, l)))) in
        omega (arith, l, bound)
