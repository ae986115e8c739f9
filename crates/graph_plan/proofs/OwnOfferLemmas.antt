-- No line changes what a port offers by itself; so the form of a source is that of its wave.
use Rattle.std.proofs.Common.{◌≡◌, ℕ, zero, suc, ◌<◌, ◌≤◌, List, [], ◌∷◌, get_or, map, Bool, true, false}
use Rattle.std.proofs.Common.{Option, Some, None, refl, sym, ap, ◌∙◌, subst, arith}
use Rattle.std.specs.Prelude.{slice_get, IfSome, option_map, if◌then◌else◌}
use Rattle.std.specs.Option.{option_or, option_map_or}
use Rattle.std.proofs.lemmas.Option.{same_Some, none-some, slice_get_within}
use Rattle.pod_codec.specs.declared.pod.Pod.{Pod}
use Rattle.pw_graph.specs.declared.ids.PortId.{PortId}
use Rattle.pw_graph.specs.declared.kind.Kind.{Kind}
use Rattle.pw_graph.specs.declared.kind.Kind.TheVariants.{Source, Dummy}
use Rattle.pw_graph.specs.KindPorts.{port_count}
use Rattle.format_filter.specs.declared.format.Format.{Format}
use Rattle.wav_files.specs.declared.wav.WavIn.{WavIn}
use Rattle.port_model.specs.declared.port_state.PortState.{PortState}
use Rattle.port_model.specs.declared.port_state.Node.{Node}
use Rattle.port_model.specs.PortState.{IsPort, AtPort, changed, with_port, released, with_released}
use Rattle.port_model.specs.Offers.{int_of}
use Rattle.port_model.specs.Forms.{value_at, shared_value, value_of}
use Rattle.port_model.specs.SoundPorts.{IsWithin, IsTaken, IsSoundNode, AreSoundNodes}
use Rattle.port_model.proofs.NodeLemmas.{at_place, at_port}
use Rattle.port_model.proofs.FormLemmas.{channels_in_range}
use Rattle.port_model.proofs.SharingLemmas.{shared_origin}
use Rattle.port_model.proofs.TakingLemmas.{first_stands}
use Rattle.port_model.proofs.ValueLemmas.{own_value, free_value}
use Rattle.link_negotiation.specs.declared.link.Link.{Link}
use Rattle.link_negotiation.specs.Unlinking.{is_released, releasing}
use Rattle.link_negotiation.proofs.MayBeGivenLemmas.{IsThere, there}
use Rattle.graph_lines.specs.Forms.{HasKinds, IsFormOfPort, FormIn}
use Rattle.graph_plan.specs.Conditions.{IsWaveFor}
use Rattle.graph_plan.proofs.sound.FormLemmas.{one_number, port_count_is, kind_at_is}
use Rattle.graph_plan.proofs.lists.ElementLemmas.{map_changed}
use Rattle.graph_plan.proofs.sound.RangeLemmas.{few_channels}
use Rattle.graph_plan.proofs.sound.ValueStaysLemmas.{within_value}

-- the own offers of all ports
abbrev pub owns : List Node → List (List Format)
owns nodes = map (λ n. map (λ s. s.own) n.ports) nodes

pub owns_port : (nodes : List Node) (q : PortId) (f : PortState → PortState) → ((s : PortState) → (f s).own ≡ s.own)
    → owns (with_port nodes q f) ≡ owns nodes
owns_port nodes q f h = map_changed (λ (n : Node). map (λ (s : PortState). s.own) n.ports) nodes q.node
    (λ node. record node { ports = changed node.ports q.port f }) (λ node. map_changed (λ (s : PortState). s.own) node.ports q.port f h)

own_released : (ports : List PortState) → map (λ (s : PortState). s.own) (map released ports) ≡ map (λ (s : PortState). s.own) ports
own_released [] = refl
own_released (s ∷ ports) = ap (λ (os : List Format). s.own ∷ os) (own_released ports)

pub owns_releasing : (made : List Link) (keep n : ℕ) (nodes : List Node) → owns (releasing made keep n nodes) ≡ owns nodes
owns_releasing made keep n nodes = go (is_released made keep n) where
  go : (b : Bool) → owns (if b then with_released nodes n else nodes) ≡ owns nodes
  go true = map_changed (λ (m : Node). map (λ (s : PortState). s.own) m.ports) nodes n (λ node. record node { ports = map released node.ports })
      (λ node. own_released node.ports)
  go false = refl

-- what holds of an own offer, by the own offers of all ports
module _ (Q : Format → Type 0) where
  to_port : (ports : List PortState) (i : ℕ) → IfSome (slice_get ports i) (λ s. Q s.own) → IfSome (slice_get (map (λ (s : PortState). s.own) ports) i) Q
  to_port [] i h = h
  to_port (s ∷ ports) zero h = h
  to_port (s ∷ ports) (suc i) h = to_port ports i h

  from_port : (ports : List PortState) (i : ℕ) → IfSome (slice_get (map (λ (s : PortState). s.own) ports) i) Q → IfSome (slice_get ports i) (λ s. Q s.own)
  from_port [] i h = h
  from_port (s ∷ ports) zero h = h
  from_port (s ∷ ports) (suc i) h = from_port ports i h

  to_owns : (nodes : List Node) (n i : ℕ) → IfSome (slice_get nodes n) (λ node. IfSome (slice_get node.ports i) (λ s. Q s.own))
      → IfSome (slice_get (owns nodes) n) (λ os. IfSome (slice_get os i) Q)
  to_owns [] n i h = h
  to_owns (m ∷ nodes) zero i h = to_port m.ports i h
  to_owns (m ∷ nodes) (suc n) i h = to_owns nodes n i h

  from_owns : (nodes : List Node) (n i : ℕ) → IfSome (slice_get (owns nodes) n) (λ os. IfSome (slice_get os i) Q)
      → IfSome (slice_get nodes n) (λ node. IfSome (slice_get node.ports i) (λ s. Q s.own))
  from_owns [] n i h = h
  from_owns (m ∷ nodes) zero i h = from_port m.ports i h
  from_owns (m ∷ nodes) (suc n) i h = from_owns nodes n i h

  pub own_at : (nodes nodes' : List Node) (port : PortId) → owns nodes' ≡ owns nodes → AtPort nodes port (λ node s. Q s.own)
      → AtPort nodes' port (λ node s. Q s.own)
  own_at nodes nodes' port same h = from_owns nodes' port.node port.port
      (subst (λ (os : List (List Format)). IfSome (slice_get os port.node) (λ l. IfSome (slice_get l port.port) Q)) (sym same)
      (to_owns nodes port.node port.port h))

-- A NODE WITH ONE PORT, whose own offer has one value at a key: its port has this value
only_value_of : (node : Node) (s : PortState) (key : ℕ) (v : Pod) → IsSoundNode node → port_count node.kind ≤ 1 → slice_get node.ports 0 ≡ Some s
    → ((f : Format) → s.format ≡ Some f → IsWithin s.own f key) → value_at s.own.fields key ≡ Some v → value_of node s key ≡ Some v
only_value_of node s key v sound one at within own = go s.format refl (shared_value node key) refl where
  go : (o : Option Format) → s.format ≡ o → (p : Option Pod) → shared_value node key ≡ p → value_of node s key ≡ Some v
  go (Some f) e p d = own_value node s key f e ∙ within_value s.own f key v (within f e) own
  go None e None d = free_value node s key e ∙ (ap (λ (p : Option Pod). option_or p (value_at s.own.fields key)) d ∙ own)
  go None e (Some w) d =
      let o = shared_origin node key w d in
      let first = first_stands node.ports o.0 o.1 in
      let l = slice_get_within node.ports first.place first.state first.there in
      let c = sound.count in
      let zero_place : first.place ≡ 0 = omega (arith, l, c, one) in
      let same : s ≡ first.state = same_Some s first.state (sym at ∙ (ap (slice_get node.ports) (sym zero_place) ∙ first.there)) in
      absurd (none-some o.0 (sym e ∙ (ap (λ (x : PortState). x.format) same ∙ first.has)))

-- THE FORM OF A SOURCE
pub form_fits : (nodes before : List Node) (kinds : List Kind) (wave : WavIn) → AreSoundNodes nodes → HasKinds nodes kinds → HasKinds before kinds
    → owns nodes ≡ owns before → IsWaveFor before wave → (port : PortId) (rate channels : ℕ) → FormIn nodes port rate channels
    → port.node ≡ wave.node → (rate ≡ wave.wav.rate) × (channels ≡ wave.wav.channels)
form_fits nodes before kinds wave sound own_kinds old_kinds same is port rate channels form at =
    let node_sound = at_place IsSoundNode nodes port.node t.node sound.each t.node_is in
    let mine = at_port (IsFormOfPort rate channels) nodes port t.node t.state t.node_is t.state_is form.1 in
    let few : port_count t.node.kind ≤ 1 = subst (λ (k : Kind). port_count k ≤ 1) (sym kind) (omega arith) in
    let state = ap (slice_get t.node.ports) (sym zero_port) ∙ t.state_is in (
      one_number (value_of t.node t.state 65539) rate wave.wav.rate mine.0.0
          (only_value_of t.node t.state 65539 (int_of wave.wav.rate) node_sound few state (λ f e. (taken f e).rate)
          (own 65539 (int_of wave.wav.rate) is.rate)),
      one_number (value_of t.node t.state 65540) channels wave.wav.channels mine.0.1
          (only_value_of t.node t.state 65540 (int_of wave.wav.channels) node_sound few state (λ f e. (taken f e).channels)
          (own 65540 (int_of wave.wav.channels) is.channels)),
    )
  where
    t : IsThere nodes port
    t = there nodes port sound form.0

    -- the kind of the wave's node
    source : (o : Option Node) → option_map (λ (n : Node). n.kind) o ≡ Some Source → (m : Node) × (o ≡ Some m) × (m.kind ≡ Source)
    source (Some m) e = (m, refl, same_Some m.kind Source e)
    source None e = absurd (none-some Source e)

    kind : t.node.kind ≡ Source
    kind =
        let m = source (slice_get before wave.node) is.source in
        kind_at_is nodes kinds own_kinds port.node t.node t.node_is
        ∙ (ap (λ (n : ℕ). get_or kinds n Dummy) at ∙ (sym (kind_at_is before kinds old_kinds wave.node m.0 m.1) ∙ m.2))

    zero_port : port.port ≡ 0
    zero_port =
        let l : port.port < port_count Source = subst (λ (k : Kind). port.port < port_count k)
        (sym (kind_at_is nodes kinds own_kinds port.node t.node t.node_is) ∙ kind)
        (subst (λ (n : ℕ). port.port < n) (port_count_is nodes kinds own_kinds port.node) form.0) in
        omega (arith, l)

    -- the value of its own offer
    own : (key : ℕ) (v : Pod) → AtPort before (record { node = wave.node; port = 0 }) (λ node s. value_at s.own.fields key ≡ Some v)
        → value_at t.state.own.fields key ≡ Some v
    own key v h =
        let moved = own_at (λ (f : Format). value_at f.fields key ≡ Some v) before nodes (record { node = wave.node; port = 0 }) same h in
        let here = subst (λ (n : ℕ). AtPort nodes (record { node = n; port = 0 }) (λ node s. value_at s.own.fields key ≡ Some v)) (sym at) moved in
        let there' = subst (λ (q : ℕ). AtPort nodes (record { node = port.node; port = q }) (λ node s. value_at s.own.fields key ≡ Some v))
        (sym zero_port) here in
        at_port (λ (node : Node) (s : PortState). value_at s.own.fields key ≡ Some v) nodes port t.node t.state t.node_is t.state_is there'

    taken : (f : Format) → t.state.format ≡ Some f → IsTaken t.state.own f
    taken f e = subst (λ (o : Option Format). IfSome o (IsTaken t.state.own)) e t.sound.format

-- the channels of a wave are 1 to 8
pub wave_channels : (nodes : List Node) (wave : WavIn) → AreSoundNodes nodes → IsWaveFor nodes wave → 1 ≤ wave.wav.channels
wave_channels nodes wave sound is =
    (few_channels t.node.kind 0 wave.wav.channels node_sound.kind (channels_in_range t.node 0 t.state wave.wav.channels node_sound t.sound value)).0
  where
    source : (o : Option Node) → option_map (λ (n : Node). n.kind) o ≡ Some Source → (m : Node) × (o ≡ Some m) × (m.kind ≡ Source)
    source (Some m) e = (m, refl, same_Some m.kind Source e)
    source None e = absurd (none-some Source e)

    m : (m : Node) × (slice_get nodes wave.node ≡ Some m) × (m.kind ≡ Source)
    m = source (slice_get nodes wave.node) is.source

    here : IsPort nodes (record { node = wave.node; port = 0 })
    here = subst (λ (o : Option Node). 0 < option_map_or (λ n. port_count n.kind) o 0) (sym m.1)
        (subst (λ (k : Kind). 0 < port_count k) (sym m.2) (omega arith))

    t : IsThere nodes (record { node = wave.node; port = 0 })
    t = there nodes (record { node = wave.node; port = 0 }) sound here

    node_sound : IsSoundNode t.node
    node_sound = at_place IsSoundNode nodes wave.node t.node sound.each t.node_is

    few : port_count t.node.kind ≤ 1
    few = subst (λ (k : Kind). port_count k ≤ 1) (sym (ap (λ (n : Node). n.kind) (same_Some t.node m.0 (sym t.node_is ∙ m.1)) ∙ m.2)) (omega arith)

    taken : (f : Format) → t.state.format ≡ Some f → IsTaken t.state.own f
    taken f e = subst (λ (o : Option Format). IfSome o (IsTaken t.state.own)) e t.sound.format

    value : value_of t.node t.state 65540 ≡ Some (int_of wave.wav.channels)
    value = only_value_of t.node t.state 65540 (int_of wave.wav.channels) node_sound few t.state_is (λ f e. (taken f e).channels)
        (at_port (λ (node : Node) (s : PortState). value_at s.own.fields 65540 ≡ Some (int_of wave.wav.channels)) nodes
        (record { node = wave.node; port = 0 }) t.node t.state t.node_is t.state_is is.channels)
