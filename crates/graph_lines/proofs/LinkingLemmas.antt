-- The output port of a link that is made has a form.
use Rattle.std.proofs.Common.{◌≡◌, ℕ, List, Option, Some, None, refl, sym, arith}
use Rattle.std.specs.Prelude.{slice_get, IsSome}
use Rattle.std.specs.Option.{option_or}
use Rattle.pw_graph.specs.declared.ids.PortId.{PortId}
use Rattle.format_filter.specs.declared.format.Format.{Format}
use Rattle.port_model.specs.declared.port_state.PortState.{PortState}
use Rattle.port_model.specs.declared.port_state.Node.{Node}
use Rattle.port_model.specs.PortState.{IsPort, AtPort, with_port, changed}
use Rattle.port_model.specs.SoundPorts.{AreSoundNodes}
use Rattle.port_model.proofs.NodeLemmas.{at_port, port_at, count_kept}
use Rattle.port_model.proofs.ChangedLemmas.{changed_here}
use Rattle.link_negotiation.proofs.MayBeGivenLemmas.{there, elsewhere}
use Rattle.link_negotiation.specs.LinkOutcome.{given, formatted}

-- a port that has a format is not marked as without a form
not_some : {X : Type 0} (o : Option X) → o ≡ None → IsSome o → ⊥
not_some o e h = cc

pub has_told : (nodes : List Node) (port : PortId) (form : Option (ℕ × ℕ)) (Q : Node → PortState → Type 0) → AreSoundNodes nodes
    → IsPort nodes port → AtPort nodes port (λ node s. IsSome s.format) → form ≡ None
    → AtPort nodes port (λ node s. IsSome s.format → IsSome form) → AtPort nodes port Q
has_told nodes port form Q sound is has e told =
    let t = there nodes port sound is in
    let own = at_port (λ (node : Node) (s : PortState). IsSome s.format) nodes port t.node t.state t.node_is t.state_is has in
    let form_is = at_port (λ (node : Node) (s : PortState). IsSome s.format → IsSome form) nodes port t.node t.state t.node_is t.state_is told in
    absurd (not_some form e (form_is own))

-- a port that is given a format has one
given_has : (o : Option Format) (format : Format) → IsSome (option_or o (Some format))
given_has (Some f) format = refl
given_has None format = refl

pub output_has : (nodes : List Node) (from to : PortId) (format : Format) → AreSoundNodes nodes → IsPort nodes from → (from.node ≡ to.node → ⊥)
    → AtPort (formatted nodes from to format) from (λ node s. IsSome s.format)
output_has nodes from to format sound is apart =
    let t = there nodes from sound is in
    let has : Node → PortState → Type 0 = λ node s. IsSome s.format in
    let whole : slice_get (with_port nodes from (given format)) from.node
    ≡ Some (record t.node { ports = changed t.node.ports from.port (given format) }) =
    changed_here nodes from.node (λ node. record node { ports = changed node.ports from.port (given format) }) t.node t.node_is in
    let own = changed_here t.node.ports from.port (given format) t.state t.state_is in
    elsewhere has (with_port nodes from (given format)) to from (given format) (λ e. apart (sym e))
    (port_at has (with_port nodes from (given format)) from (record t.node { ports = changed t.node.ports from.port (given format) })
    (given format t.state) whole own (given_has t.state.format format))

pub port_kept : (nodes : List Node) (from to port : PortId) (format : Format) → IsPort nodes port → IsPort (formatted nodes from to format) port
port_kept nodes from to port format is =
    let first = count_kept nodes from (given format) port.node in
    let second = count_kept (with_port nodes from (given format)) to (given format) port.node in
    omega (arith, is, first, second)
