-- The ports of a node by its kind, and what holds of a port.
use Rattle.std.proofs.Common.{◌≡◌, ℕ, zero, suc, ◌<◌, ◌≤◌, List, [], ◌∷◌, map, length, Option, Some, None, refl, sym, ap, ◌∙◌, arith}
use Rattle.std.specs.Prelude.{slice_get, slice_index_or, IfSome, IsSome}
use Rattle.std.proofs.lemmas.Option.{same_Some}
use Rattle.std.proofs.lemmas.List.{length-map}
use Rattle.pw_graph.specs.declared.ids.PortId.{PortId}
use Rattle.pw_graph.specs.declared.kind.Kind.{Kind}
use Rattle.pw_graph.specs.declared.kind.Kind.TheVariants.{Dummy}
use Rattle.pw_graph.specs.KindPorts.{input_count, port_count}
use Rattle.port_model.specs.declared.port_state.PortState.{PortState}
use Rattle.port_model.specs.declared.port_state.Node.{Node}
use Rattle.port_model.specs.Offers.{int_of}
use Rattle.port_model.specs.Forms.{HasForm}
use Rattle.port_model.specs.PortState.{IsPort, IsInput, AtPort, input_count_of, port_count_of}
use Rattle.port_model.specs.SoundPorts.{AreSoundNodes}
use Rattle.port_model.proofs.NodeLemmas.{at_port, has_place}
use Rattle.link_negotiation.proofs.MayBeGivenLemmas.{there}
use Rattle.graph_lines.specs.declared.standing.Standing.{Standing}
use Rattle.graph_lines.specs.Forms.{HasKinds, IsFormOfPort, FormIn}
use Rattle.graph_lines.specs.Ready.{HasFormat, HasReadyNodes}

-- counts of ports are those of the kind
inputs_mapped : (nodes : List Node) (n : ℕ) → input_count_of nodes n ≡ input_count (slice_index_or (map (λ m. m.kind) nodes) n Dummy)
inputs_mapped [] n = refl
inputs_mapped (m ∷ ns) zero = refl
inputs_mapped (m ∷ ns) (suc n) = inputs_mapped ns n

ports_mapped : (nodes : List Node) (n : ℕ) → port_count_of nodes n ≡ port_count (slice_index_or (map (λ m. m.kind) nodes) n Dummy)
ports_mapped [] n = refl
ports_mapped (m ∷ ns) zero = refl
ports_mapped (m ∷ ns) (suc n) = ports_mapped ns n

pub inputs_by_kind : (nodes : List Node) (kinds : List Kind) (n : ℕ) → HasKinds nodes kinds
    → input_count_of nodes n ≡ input_count (slice_index_or kinds n Dummy)
inputs_by_kind nodes kinds n e = inputs_mapped nodes n ∙ ap (λ (ks : List Kind). input_count (slice_index_or ks n Dummy)) e

pub ports_by_kind : (nodes : List Node) (kinds : List Kind) (n : ℕ) → HasKinds nodes kinds
    → port_count_of nodes n ≡ port_count (slice_index_or kinds n Dummy)
ports_by_kind nodes kinds n e = ports_mapped nodes n ∙ ap (λ (ks : List Kind). port_count (slice_index_or ks n Dummy)) e

-- an input is a port
inputs_first : (nodes : List Node) (n : ℕ) → input_count_of nodes n ≤ port_count_of nodes n
inputs_first [] n = omega arith
inputs_first (m ∷ ns) zero = omega arith
inputs_first (m ∷ ns) (suc n) = inputs_first ns n

pub input_is_port : (nodes : List Node) (port : PortId) → IsInput nodes port → IsPort nodes port
input_is_port nodes port is = let first = inputs_first nodes port.node in omega (arith, is, first)

-- how many nodes there are
pub as_many : (nodes : List Standing) (kinds : List Kind) (ports : List Node) → HasReadyNodes nodes kinds ports → length nodes ≡ length ports
as_many nodes kinds ports h = h.many ∙ (sym (ap length h.kinds) ∙ length-map ports (λ m. m.kind))

pub at_most_63 : (nodes : List Standing) (kinds : List Kind) (ports : List Node) → HasReadyNodes nodes kinds ports → length nodes ≤ 63
at_most_63 nodes kinds ports h = let same = as_many nodes kinds ports h in let few = h.ports.few in omega (arith, same, few)

-- two things that hold of a port
some_both : {X : Type 0} (o : Option X) (P Q R : X → Type 0) → ((x : X) → P x → Q x → R x) → IfSome o P → IfSome o Q → IfSome o R
some_both (Some x) P Q R h p q = h x p q
some_both None P Q R h p q = tt

pub at_both : (nodes : List Node) (port : PortId) (P Q R : Node → PortState → Type 0) → ((n : Node) (s : PortState) → P n s → Q n s → R n s)
    → AtPort nodes port P → AtPort nodes port Q → AtPort nodes port R
at_both nodes port P Q R h p q = some_both (slice_get nodes port.node)
    (λ n. IfSome (slice_get n.ports port.port) (P n)) (λ n. IfSome (slice_get n.ports port.port) (Q n))
    (λ n. IfSome (slice_get n.ports port.port) (R n))
    (λ n a b. some_both (slice_get n.ports port.port) (P n) (Q n) (R n) (h n) a b) p q

-- a port with a format, and its form
pub formed : (nodes : List Node) (port : PortId) (rate channels : ℕ) → IsPort nodes port → HasFormat nodes port
    → AtPort nodes port (λ node s. HasForm node s rate channels) → FormIn nodes port rate channels
formed nodes port rate channels is has form = (
  is,
  at_both nodes port (λ node s. IsSome s.format) (λ node s. HasForm node s rate channels)
      (IsFormOfPort rate channels) (λ node s a b. (b, λ end. a)) has form,
)

-- a port has one form
pub int_one : (m n : ℕ) → int_of m ≡ int_of n → m ≡ n
int_one m n e = cc

pub form_one : (nodes : List Node) (port : PortId) (r c rate channels : ℕ) → AreSoundNodes nodes → FormIn nodes port r c
    → FormIn nodes port rate channels → (r ≡ rate) × (c ≡ channels)
form_one nodes port r c rate channels sound f g =
    let t = there nodes port sound f.0 in
    let own = at_port (IsFormOfPort r c) nodes port t.node t.state t.node_is t.state_is f.1 in
    let other = at_port (IsFormOfPort rate channels) nodes port t.node t.state t.node_is t.state_is g.1 in (
      int_one r rate (same_Some (int_of r) (int_of rate) (sym own.0.0 ∙ other.0.0)),
      int_one c channels (same_Some (int_of c) (int_of channels) (sym own.0.1 ∙ other.0.1)),
    )

-- a port with a form is of one of the nodes
pub node_below : (nodes : List Node) (port : PortId) (rate channels : ℕ) → AreSoundNodes nodes → FormIn nodes port rate channels
    → port.node < length nodes
node_below nodes port rate channels sound f = (has_place nodes port sound f.0).0
