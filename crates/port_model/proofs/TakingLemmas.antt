-- A port that takes a format agrees with the other ports of its node.
use Rattle.std.proofs.Common.{◌≡◌, ◌⊎◌, inl, inr, ℕ, zero, suc, List, [], ◌∷◌, Option, Some, None, true, refl, sym, ap, ◌∙◌, subst}
use Rattle.std.specs.Prelude.{slice_get, IfSome}
use Rattle.std.specs.Option.{option_or}
use Rattle.std.proofs.lemmas.Option.{same_Some, none-some}
use Rattle.std.proofs.lemmas.Bool.{or_cases, eqb-true}
use Rattle.pw_graph.specs.declared.ids.PortId.{PortId}
use Rattle.pw_graph.specs.declared.kind.Kind.{Kind}
use Rattle.pw_graph.specs.declared.kind.Kind.TheVariants.{Source, Square, Gain, Mix2, Delay, Map, Split, Sink, Meter, Dummy}
use Rattle.pod_codec.specs.declared.pod.Pod.{Pod}
use Rattle.format_filter.specs.declared.format.Format.{Format}
use Rattle.port_model.specs.declared.port_state.PortState.{PortState}
use Rattle.port_model.specs.declared.port_state.Node.{Node}
use Rattle.port_model.specs.PortState.{with_port, taking}
use Rattle.port_model.specs.Offers.{is_shared_key}
use Rattle.port_model.specs.Forms.{value_at, first_format, shared_value}
use Rattle.port_model.specs.SoundPorts.{IsTaken, IsSoundNode, AreSoundNodes, MayTake}
use Rattle.port_model.proofs.NodeLemmas.{node_changed, nodes_changed}

-- a shared key is that of the rate or that of the channels
pub shared_key : (kind : Kind) (key : ℕ) → is_shared_key kind key ≡ true → (key ≡ 65539) ⊎ (key ≡ 65540)
shared_key (Gain g) key e = elim (or_cases _ _ e) [ inl w ↦ inl (eqb-true key 65539 w) | inr w ↦ inr (eqb-true key 65540 w) ]
shared_key (Mix2 ga gb) key e = elim (or_cases _ _ e) [ inl w ↦ inl (eqb-true key 65539 w) | inr w ↦ inr (eqb-true key 65540 w) ]
shared_key (Delay frames) key e = elim (or_cases _ _ e) [ inl w ↦ inl (eqb-true key 65539 w) | inr w ↦ inr (eqb-true key 65540 w) ]
shared_key Source key e = inl (eqb-true key 65539 e)
shared_key (Square rate channels period amp) key e = inl (eqb-true key 65539 e)
shared_key (Map channels list) key e = inl (eqb-true key 65539 e)
shared_key Split key e = inl (eqb-true key 65539 e)
shared_key Sink key e = inl (eqb-true key 65539 e)
shared_key Meter key e = inl (eqb-true key 65539 e)
shared_key Dummy key e = inl (eqb-true key 65539 e)

-- the first format is at some port
pub record IsFirst (ports : List PortState) (format : Format) : Type 0 where
  pub place : ℕ
  pub state : PortState
  pub there : slice_get ports place ≡ Some state
  pub has : state.format ≡ Some format

or_else : (o : Option Format) (ports : List PortState) (s : PortState) (g : Format) → s.format ≡ o
    → option_or o (first_format ports) ≡ Some g → ((h : Format) → first_format ports ≡ Some h → IsFirst ports h) → IsFirst (s ∷ ports) g
or_else (Some f) ports s g e d next = record { place = 0; state = s; there = refl; has = e ∙ d }
or_else None ports s g e d next = let w = next g d in record { place = suc w.place; state = w.state; there = w.there; has = w.has }

pub first_stands : (ports : List PortState) (format : Format) → first_format ports ≡ Some format → IsFirst ports format
first_stands [] format e = absurd (none-some format e)
first_stands (s ∷ ports) format e = or_else s.format ports s format refl e (first_stands ports)

-- where a port has a format, there is a first one
or_found : (o : Option Format) (ports : List PortState) → ((h : Format) × (first_format ports ≡ Some h)) → (h : Format)
    × (option_or o (first_format ports) ≡ Some h)
or_found (Some f) ports w = (f, refl)
or_found None ports w = w

or_here : (o : Option Format) (ports : List PortState) (g : Format) → o ≡ Some g → (h : Format)
    × (option_or o (first_format ports) ≡ Some h)
or_here (Some f) ports g e = (f, refl)
or_here None ports g e = absurd (none-some g e)

pub some_first : (ports : List PortState) (k : ℕ) (s : PortState) (g : Format) → slice_get ports k ≡ Some s → s.format ≡ Some g
    → (h : Format) × (first_format ports ≡ Some h)
some_first [] k s g e d = absurd (none-some s e)
some_first (t ∷ ports) zero s g e d = or_here t.format ports g (ap (λ (u : PortState). u.format) (same_Some t s e) ∙ d)
some_first (t ∷ ports) (suc k) s g e d = or_found t.format ports (some_first ports k s g e d)

-- the value of a port's format at a shared key is the node's
pub shared_at : (node : Node) (key k : ℕ) (s : PortState) (g : Format) → IsSoundNode node → is_shared_key node.kind key ≡ true
    → slice_get node.ports k ≡ Some s → s.format ≡ Some g → shared_value node key ≡ value_at g.fields key
shared_at node key k s g sound shared e d =
    let some = some_first node.ports k s g e d in
    let first = first_stands node.ports some.0 some.1 in
    rw (shared, some.1) (sound.agree first.place k first.state s first.there e some.0 g key first.has d shared)

-- a format that a port has, has a value at a shared key
taken_value : (own g : Format) (key : ℕ) → IsTaken own g → (key ≡ 65539) ⊎ (key ≡ 65540) → (v : Pod) × (value_at g.fields key ≡ Some v)
taken_value own g key h (inl e) = (h.rate.value, ap (value_at g.fields) e ∙ h.rate.format_value)
taken_value own g key h (inr e) = (h.channels.value, ap (value_at g.fields) e ∙ h.channels.format_value)

-- what a port may take agrees with what another one has
agrees : (node : Node) (format g : Format) (t : PortState) (k key : ℕ) → IsSoundNode node
    → ((key : ℕ) (value : Pod) → shared_value node key ≡ Some value → value_at format.fields key ≡ Some value)
    → slice_get node.ports k ≡ Some t → t.format ≡ Some g → is_shared_key node.kind key ≡ true
    → value_at format.fields key ≡ value_at g.fields key
agrees node format g t k key sound may e d shared =
    let taken : IsTaken t.own g = subst (λ (o : Option Format). IfSome o (IsTaken t.own)) d (sound.ports k t e).format in
    let value = taken_value t.own g key taken (shared_key node.kind key shared) in
    let own : shared_value node key ≡ Some value.0 = shared_at node key k t g sound shared e d ∙ value.1 in
    may key value.0 own ∙ sym value.1

pub nodes_taken : (nodes : List Node) (port : PortId) (format : Format) → AreSoundNodes nodes
    → ((n : Node) (s : PortState) → slice_get nodes port.node ≡ Some n → slice_get n.ports port.port ≡ Some s → MayTake format n s)
    → AreSoundNodes (with_port nodes port (taking format))
nodes_taken nodes port format sound may =
    nodes_changed nodes port (taking format) sound (λ node here whole.
    node_changed node port.port (taking format) whole
    (λ s e.
    let old = whole.ports port.port s e in (
      record { own = old.own; format = (may node s here e).taken; buffers = old.buffers },
      λ f g key p q shared. ap (λ (h : Format). value_at h.fields key) (same_Some f g (sym p ∙ q)),
    ))
    (λ s t k e d.
    let allowed = (may node s here e).shared in (
      (λ f g key p q shared. ap (λ (h : Format). value_at h.fields key) (sym (same_Some format f p))
          ∙ agrees node format g t k key whole allowed d q shared),
      (λ f g key p q shared. sym (agrees node format f t k key whole allowed d p shared)
          ∙ ap (λ (h : Format). value_at h.fields key) (same_Some format g q)),
    )))
