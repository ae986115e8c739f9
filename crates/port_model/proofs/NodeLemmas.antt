-- Ports that are there, and sound nodes of which one port is changed.
use Rattle.std.proofs.Common.{◌≡◌, inl, inr, ℕ, zero, suc, [], ◌∷◌, ◌<◌, ◌≤◌, List, length, get_or, Option, Some, refl, sym, ap}
use Rattle.std.proofs.Common.{◌∙◌, subst, arith}
use Rattle.std.specs.List.{All}
use Rattle.std.specs.Option.{option_map_or}
use Rattle.std.specs.Prelude.{slice_get, IfSome}
use Rattle.std.proofs.lemmas.Option.{same_Some, slice_get-get_or, slice_get_past, slice_get_within, get_or_from_slice_get}
use Rattle.pw_graph.specs.declared.ids.PortId.{PortId}
use Rattle.std.proofs.Math.ListN.{set}
use Rattle.pw_graph.specs.KindPorts.{port_count}
use Rattle.pw_lists.specs.Refilled.{refilled}
use Rattle.port_model.specs.declared.port_state.PortState.{PortState}
use Rattle.port_model.specs.declared.port_state.Node.{Node}
use Rattle.port_model.specs.PortState.{IsPort, HasPlace, AtPort, port_count_of, changed, with_port}
use Rattle.port_model.specs.SoundPorts.{AreSoundNodes, IsSoundNode, IsSoundPort, Agree}
use Rattle.port_model.proofs.ChangedLemmas.{length-changed, changed_origin, All-changed, written}

-- what holds of each thing of a list holds of what is at a place
pub at_place : {X : Type 0} (P : X → Type 0) (xs : List X) (i : ℕ) (x : X) → All P xs → slice_get xs i ≡ Some x → P x
at_place P xs i x h e = subst P (get_or_from_slice_get xs i x x e) (h i x (slice_get_within xs i x e))

-- what a clause says of a port, at its node and state
pub at_port : (P : Node → PortState → Type 0) (nodes : List Node) (port : PortId) (n : Node) (s : PortState)
    → slice_get nodes port.node ≡ Some n → slice_get n.ports port.port ≡ Some s → AtPort nodes port P → P n s
at_port P nodes port n s e f h =
    let inner = subst (λ (o : Option Node). IfSome o (λ node. IfSome (slice_get node.ports port.port) (P node))) e h in
    subst (λ (o : Option PortState). IfSome o (P n)) f inner

pub port_at : (P : Node → PortState → Type 0) (nodes : List Node) (port : PortId) (n : Node) (s : PortState)
    → slice_get nodes port.node ≡ Some n → slice_get n.ports port.port ≡ Some s → P n s → AtPort nodes port P
port_at P nodes port n s e f h =
    subst (λ (o : Option Node). IfSome o (λ node. IfSome (slice_get node.ports port.port) (P node))) (sym e)
    (subst (λ (o : Option PortState). IfSome o (P n)) (sym f) h)

-- a port that its node's kind has, has a place
pub has_place : (nodes : List Node) (port : PortId) → AreSoundNodes nodes → IsPort nodes port → HasPlace nodes port
has_place nodes port sound there = (within, inside) where
  within : port.node < length nodes
  within = grind (
    arith,
    slice_get_past nodes port.node,
    ap (λ (o : Option Node). option_map_or (λ (n : Node). port_count n.kind) o 0),
    there,
  )

  inside : (node : Node) → slice_get nodes port.node ≡ Some node → port.port < length node.ports
  inside node e =
      let count = (at_place IsSoundNode nodes port.node node sound.each e).count in
      let known : port_count_of nodes port.node ≡ port_count node.kind =
      ap (λ (o : Option Node). option_map_or (λ (n : Node). port_count n.kind) o 0) e in
      omega (arith, there, known, count)

-- a node of which one port is changed
pub node_changed : (node : Node) (j : ℕ) (f : PortState → PortState) → IsSoundNode node
    → ((s : PortState) → slice_get node.ports j ≡ Some s → IsSoundPort node.kind j (f s) × Agree node.kind (f s) (f s))
    → ((s t : PortState) (k : ℕ) → slice_get node.ports j ≡ Some s → slice_get node.ports k ≡ Some t → Agree node.kind (f s) t
    × Agree node.kind t (f s))
    → IsSoundNode (record node { ports = changed node.ports j f })
node_changed node j f sound own others = record {
  kind = sound.kind;
  count = length-changed node.ports j f ∙ sound.count;
  ports = λ i s e. elim (changed_origin node.ports j i f s e) [
    | inl w ↦ subst (λ (t : PortState). IsSoundPort node.kind i t) (sym w.1.2)
        (subst (λ (n : ℕ). IsSoundPort node.kind n (f w.1.0)) (sym w.0) (own w.1.0 w.1.1).0)
    | inr w ↦ sound.ports i s w.1
  ];
  agree = λ i k s t e d. elim (changed_origin node.ports j i f s e) [
    | inl w ↦ elim (changed_origin node.ports j k f t d) [
      | inl v ↦ subst (Agree node.kind s) (sym v.1.2)
          (subst (λ (u : PortState). Agree node.kind u (f v.1.0)) (sym w.1.2)
          (subst (λ (u : PortState). Agree node.kind (f u) (f v.1.0)) (same_Some v.1.0 w.1.0 (sym v.1.1 ∙ w.1.1)) (own v.1.0 v.1.1).1))
      | inr v ↦ subst (λ (u : PortState). Agree node.kind u t) (sym w.1.2) (others w.1.0 t k w.1.1 v.1).0
    ]
    | inr w ↦ elim (changed_origin node.ports j k f t d) [
      | inl v ↦ subst (Agree node.kind s) (sym v.1.2) (others v.1.0 s i v.1.1 w.1).1
      | inr v ↦ sound.agree i k s t w.1 v.1
    ]
  ];
}

-- nodes of which one port is changed
pub nodes_changed : (nodes : List Node) (port : PortId) (f : PortState → PortState) → AreSoundNodes nodes
    → ((node : Node) → slice_get nodes port.node ≡ Some node → IsSoundNode node
    → IsSoundNode (record node { ports = changed node.ports port.port f }))
    → AreSoundNodes (with_port nodes port f)
nodes_changed nodes port f sound h = record {
  few = subst (λ (n : ℕ). n ≤ 63) (sym (length-changed nodes port.node (λ node. record node { ports = changed node.ports port.port f })))
      sound.few;
  each = All-changed IsSoundNode nodes port.node (λ node. record node { ports = changed node.ports port.port f }) sound.each h;
}

-- a write to one port through two slices
pub port_written : (nodes seen : List Node) (states : List PortState) (port : PortId) (d : Node) (e : PortState) (f : PortState → PortState)
    → HasPlace nodes port → seen ≡ nodes → states ≡ (get_or seen port.node d).ports
    → refilled nodes (set seen port.node (record (get_or seen port.node d)
    { ports = refilled (get_or seen port.node d).ports (set states port.port (f (get_or states port.port e))) }))
    ≡ with_port nodes port f
port_written nodes seen states port d e f place same ports =
    let node = get_or seen port.node d in
    let here : slice_get nodes port.node ≡ Some node = slice_get-get_or nodes port.node d place.0
    ∙ ap (λ (xs : List Node). Some (get_or xs port.node d)) (sym same) in
    let own : refilled node.ports (set states port.port (f (get_or states port.port e))) ≡ changed node.ports port.port f =
    written node.ports states port.port e (f (get_or states port.port e)) f ports (place.1 node here) refl in
    written nodes seen port.node d (record node { ports = refilled node.ports (set states port.port (f (get_or states port.port e))) })
    (λ n. record n { ports = changed n.ports port.port f }) same place.0
    (ap (λ (ps : List PortState). record node { ports = ps }) own)

-- a change of one port keeps the kinds, and so the ports that are there
pub count_kept : (nodes : List Node) (port : PortId) (f : PortState → PortState) (n : ℕ)
    → port_count_of (with_port nodes port f) n ≡ port_count_of nodes n
count_kept nodes port f n = kept nodes port.node n where
  kept : (ns : List Node) (i k : ℕ) → port_count_of
      (changed ns i (λ (node : Node). record node { ports = changed node.ports port.port f })) k ≡ port_count_of ns k
  kept [] i k = refl
  kept (m ∷ ns) zero zero = refl
  kept (m ∷ ns) zero (suc k) = refl
  kept (m ∷ ns) (suc i) zero = refl
  kept (m ∷ ns) (suc i) (suc k) = kept ns i k
