-- A narrowed port: each port keeps the one value that its own offer has at a key, and each node its kind.
use Rattle.std.proofs.Common.{◌≡◌, inl, inr, ℕ, zero, suc, List, [], ◌∷◌, Option, Some, None, refl, sym, ap, ◌∙◌}
use Rattle.std.specs.Prelude.{slice_get, IfSome}
use Rattle.std.proofs.lemmas.Option.{same_Some}
use Rattle.pw_graph.specs.declared.ids.PortId.{PortId}
use Rattle.pod_codec.specs.declared.pod.Pod.{Pod}
use Rattle.format_filter.specs.declared.format.Format.{Format}
use Rattle.format_filter.specs.declared.common.Filtered.TheVariants.{Common}
use Rattle.format_filter.specs.CommonFormat.{Filters}
use Rattle.port_model.specs.declared.port_state.PortState.{PortState}
use Rattle.port_model.specs.declared.port_state.Node.{Node}
use Rattle.port_model.specs.PortState.{kind_of, AtPort, changed, with_port, offering}
use Rattle.port_model.specs.Forms.{value_at}
use Rattle.port_model.proofs.ChangedLemmas.{changed_origin}
use Rattle.port_model.proofs.NodeLemmas.{at_port}
use Rattle.port_model.proofs.NarrowingLemmas.{value_common}

if_some : {X : Type 0} (P : X → Type 0) (o : Option X) → ((x : X) → o ≡ Some x → P x) → IfSome o P
if_some P None h = tt
if_some P (Some x) h = h x refl

-- a port is narrowed, and each port that had one value at a key has it still
module _ (nodes : List Node) (port : PortId) (n : Node) (s : PortState) (file c : Format) (at_node : slice_get nodes port.node ≡ Some n)
    (at_state : slice_get n.ports port.port ≡ Some s) (filters : Filters s.own file (Common c)) where
  abbrev Has : ℕ → Pod → Node → PortState → Type 0
  Has key v node t = value_at t.own.fields key ≡ Some v

  abbrev narrowed_node : Node → Node
  narrowed_node node = record node { ports = changed node.ports port.port (offering c) }

  pub value_narrowed : (q : PortId) (key : ℕ) (v : Pod) → AtPort nodes q (Has key v) → AtPort (with_port nodes port (offering c)) q (Has key v)
  value_narrowed q key v h = if_some _ _ (λ m e. if_some _ _ (λ t d. at_node_of m t e d)) where
    state_of : (m : Node) (t : PortState) → slice_get nodes port.node ≡ Some m → q.node ≡ port.node
        → slice_get (changed m.ports port.port (offering c)) q.port ≡ Some t → Has key v m t
    state_of m t at same d = elim (changed_origin m.ports port.port q.port (offering c) t d) [
      | inl w ↦
          let node : m ≡ n = same_Some m n (sym at ∙ at_node) in
          let state : slice_get m.ports port.port ≡ Some s = ap (λ (x : Node). slice_get x.ports port.port) node ∙ at_state in
          let there : slice_get m.ports q.port ≡ Some s = ap (slice_get m.ports) w.0 ∙ state in
          let own = at_port (Has key v) nodes q m s (ap (slice_get nodes) same ∙ at) there h in
          ap (λ (x : PortState). value_at x.own.fields key) w.1.2 ∙ value_common s.own file c key v own filters.1
      | inr w ↦ at_port (Has key v) nodes q m t (ap (slice_get nodes) same ∙ at) w.1 h
    ]

    at_node_of : (m : Node) (t : PortState) → slice_get (with_port nodes port (offering c)) q.node ≡ Some m → slice_get m.ports q.port ≡ Some t
        → Has key v m t
    at_node_of m t e d = elim (changed_origin nodes port.node q.node narrowed_node m e) [
      | inl w ↦ state_of w.1.0 t w.1.1 w.0 (sym (ap (λ (x : Node). slice_get x.ports q.port) w.1.2) ∙ d)
      | inr w ↦ at_port (Has key v) nodes q m t w.1 d h
    ]

  pub kind_narrowed : (k : ℕ) → kind_of (with_port nodes port (offering c)) k ≡ kind_of nodes k
  kind_narrowed k = kept nodes port.node k where
    kept : (ns : List Node) (i j : ℕ) → kind_of (changed ns i narrowed_node) j ≡ kind_of ns j
    kept [] i j = refl
    kept (m ∷ ns) zero zero = refl
    kept (m ∷ ns) zero (suc j) = refl
    kept (m ∷ ns) (suc i) zero = refl
    kept (m ∷ ns) (suc i) (suc j) = kept ns i j
