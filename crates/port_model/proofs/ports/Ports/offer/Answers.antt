-- A narrowed offer is an offer of the kind still.
use Rattle.std.proofs.Common.{◌≡◌, sym, subst, ap, ◌∙◌, List, refl, Some}
use Rattle.std.specs.Prelude.{slice_get}
use Rattle.format_filter.specs.declared.common.Filtered.{Filtered}
use Rattle.format_filter.specs.CommonFormat.{Filters}
use Rattle.port_model.specs.declared.port_state.Node.{Node}
use Rattle.port_model.specs.PortState.{AtPort, IsPort}
use Rattle.port_model.specs.Narrowing.{IsUnformatted}
use Rattle.port_model.specs.SoundPorts.{AreSoundNodes}
use Rattle.port_model.proofs.NodeLemmas.{at_port, has_place}
use Rattle.port_model.proofs.NarrowingLemmas.{nodes_narrowed}
use Rattle.port_model.proofs.ports.Ports.offer.Goals as goal

pub invariant_of-self : goal.invariant_of-self
invariant_of-self c =
    let nodes = c.self.inside.nodes in
    let port = c.args.port in
    let n = c.node_at-node.result.now in
    let s = c.state_at-state.result.now in
    let here : slice_get nodes port.node ≡ Some n = ap (λ (ns : List Node). slice_get ns port.node) (sym c.as_slice.ensures)
    ∙ c.node_at-node.ensures.node in
    let free = at_port (λ (node : Node) s. IsUnformatted node) nodes port n s here c.state_at-state.ensures.state
    (subst (λ (ns : List Node). AtPort ns port (λ node s. IsUnformatted node)) (sym c.self.view_is) c.requires.free) in
    let filters = subst (λ (f : Filtered). Filters s.own c.args.format.now f) c.in-Common.is c.in_ok-own.ensures.filters in
    subst AreSoundNodes (sym c.put_own.ensures)
    (nodes_narrowed nodes port n s c.args.format.now c.in-Common.own c.self.invariant here c.state_at-state.ensures.state free filters)

pub put_own-requires : goal.put_own-requires
put_own-requires c = has_place c.self.inside.nodes c.args.port c.self.invariant
    (subst (λ (ns : List Node). IsPort ns c.args.port) (sym c.self.view_is) c.requires.port)

pub returns-in-Types-clause-ok : goal.returns-in-Types-clause-ok
returns-in-Types-clause-ok c =
    let differ = subst (λ (f : Filtered). Filters c.state_at-state.result.now.own c.args.format.now f) c.in-Types.is c.in_ok-own.ensures.filters in
    ((λ e. differ (c.state_at-state.ensures.sound.own.object ∙ sym e)), refl)
