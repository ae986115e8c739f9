-- Sound links stay sound whatever becomes of the ports of others.
use Rattle.std.proofs.Common.{◌≡◌, ℕ, zero, suc, List, [], ◌∷◌, map, Option, Some, None, refl, sym, ap, ◌∙◌, arith}
use Rattle.std.specs.Prelude.{slice_get, IfSome, IsSome}
use Rattle.std.specs.Option.{option_or}
use Rattle.pw_graph.specs.declared.ids.PortId.{PortId}
use Rattle.pw_graph.specs.declared.kind.Kind.{Kind}
use Rattle.format_filter.specs.declared.format.Format.{Format}
use Rattle.port_model.specs.declared.port_state.PortState.{PortState}
use Rattle.port_model.specs.declared.port_state.Node.{Node}
use Rattle.port_model.specs.PortState.{IsInput, IsOutput, changed, with_port}
use Rattle.link_negotiation.specs.LinkOutcome.{given}
use Rattle.graph_lines.specs.declared.wire.Wire.{Wire}
use Rattle.graph_lines.specs.Forms.{HasKinds}
use Rattle.graph_lines.specs.Ready.{HasFormat, IsReadyWire}
use Rattle.graph_lines.proofs.PortLemmas.{inputs_by_kind, ports_by_kind}

-- a change that keeps kinds
changed_kinds : (nodes : List Node) (i : ℕ) (f : Node → Node) → ((n : Node) → (f n).kind ≡ n.kind)
    → map (λ n. n.kind) (changed nodes i f) ≡ map (λ n. n.kind) nodes
changed_kinds [] i f e = refl
changed_kinds (n ∷ ns) zero f e = ap (λ (k : Kind). k ∷ map (λ n. n.kind) ns) (e n)
changed_kinds (n ∷ ns) (suc i) f e = ap (λ (ks : List Kind). n.kind ∷ ks) (changed_kinds ns i f e)

pub kinds_kept : (nodes : List Node) (kinds : List Kind) (i : ℕ) (f : Node → Node) → ((n : Node) → (f n).kind ≡ n.kind) → HasKinds nodes kinds
    → HasKinds (changed nodes i f) kinds
kinds_kept nodes kinds i f e h = changed_kinds nodes i f e ∙ h

-- with the same kinds, the same ports are there
pub output_kept : (nodes after : List Node) (kinds : List Kind) (port : PortId) → HasKinds nodes kinds → HasKinds after kinds
    → IsOutput nodes port → IsOutput after port
output_kept nodes after kinds port h k is =
    let first = inputs_by_kind nodes kinds port.node h ∙ sym (inputs_by_kind after kinds port.node k) in
    let all = ports_by_kind nodes kinds port.node h ∙ sym (ports_by_kind after kinds port.node k) in
    let low = is.0 in let high = is.1 in
    (omega (arith, first, low), omega (arith, all, high))

pub input_kept : (nodes after : List Node) (kinds : List Kind) (port : PortId) → HasKinds nodes kinds → HasKinds after kinds
    → IsInput nodes port → IsInput after port
input_kept nodes after kinds port h k is =
    let first = inputs_by_kind nodes kinds port.node h ∙ sym (inputs_by_kind after kinds port.node k) in omega (arith, first, is)

-- what holds of all that may be in a place holds after a change that keeps it
changed_keeps : {X : Type 0} (P : X → Type 0) (xs : List X) (i j : ℕ) (f : X → X) → ((x : X) → P x → P (f x)) → IfSome (slice_get xs j) P
    → IfSome (slice_get (changed xs i f) j) P
changed_keeps P [] i j f k h = h
changed_keeps P (x ∷ xs) zero zero f k h = k x h
changed_keeps P (x ∷ xs) zero (suc j) f k h = h
changed_keeps P (x ∷ xs) (suc i) zero f k h = h
changed_keeps P (x ∷ xs) (suc i) (suc j) f k h = changed_keeps P xs i j f k h

changed_makes : {X : Type 0} (P : X → Type 0) (xs : List X) (i : ℕ) (f : X → X) → ((x : X) → P (f x)) → IfSome (slice_get (changed xs i f) i) P
changed_makes P [] i f m = tt
changed_makes P (x ∷ xs) zero f m = m x
changed_makes P (x ∷ xs) (suc i) f m = changed_makes P xs i f m

-- a port keeps its format where a change takes none away, and has one where it is given one
pub format_kept : (nodes : List Node) (port other : PortId) (f : PortState → PortState)
    → ((s : PortState) → IsSome s.format → IsSome (f s).format) → HasFormat nodes other → HasFormat (with_port nodes port f) other
format_kept nodes port other f keeps h = changed_keeps (λ n. IfSome (slice_get n.ports other.port) (λ s. IsSome s.format)) nodes port.node other.node
    (λ n. record n { ports = changed n.ports port.port f })
    (λ n has. changed_keeps (λ s. IsSome s.format) n.ports port.port other.port f keeps has) h

given_has : (o : Option Format) (format : Format) → IsSome (option_or o (Some format))
given_has (Some f) format = refl
given_has None format = refl

pub given_kept : (nodes : List Node) (port other : PortId) (format : Format) → HasFormat nodes other
    → HasFormat (with_port nodes port (given format)) other
given_kept nodes port other format h = format_kept nodes port other (given format) (λ s has. given_has s.format format) h

pub given_there : (nodes : List Node) (port : PortId) (format : Format) → HasFormat (with_port nodes port (given format)) port
given_there nodes port format = there nodes port.node where
  here : (states : List PortState) → IfSome (slice_get (changed states port.port (given format)) port.port) (λ s. IsSome s.format)
  here states = changed_makes (λ s. IsSome s.format) states port.port (given format) (λ s. given_has s.format format)

  there : (ns : List Node) (i : ℕ)
      → IfSome (slice_get (changed ns i (λ n. record n { ports = changed n.ports port.port (given format) })) i)
      (λ n. IfSome (slice_get n.ports port.port) (λ s. IsSome s.format))
  there ns i = changed_makes (λ n. IfSome (slice_get n.ports port.port) (λ s. IsSome s.format)) ns i
      (λ n. record n { ports = changed n.ports port.port (given format) }) (λ n. here n.ports)

-- a link stays sound where its ports keep their formats
pub wire_kept : (nodes after : List Node) (kinds : List Kind) (w : Wire) → HasKinds nodes kinds → HasKinds after kinds
    → (HasFormat nodes w.from → HasFormat after w.from) → (HasFormat nodes w.to → HasFormat after w.to) → IsReadyWire nodes w → IsReadyWire after w
wire_kept nodes after kinds w h k from to is = record {
  output = output_kept nodes after kinds w.from h k is.output;
  input = input_kept nodes after kinds w.to h k is.input;
  from = from is.from;
  to = to is.to;
  buffers = is.buffers;
}
