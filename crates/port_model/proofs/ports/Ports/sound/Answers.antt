-- A form is one that the kind may have.
use Rattle.std.proofs.Common.{◌≡◌, List, Some, ap, sym, ◌∙◌}
use Rattle.std.specs.Prelude.{slice_get}
use Rattle.pw_graph.specs.KindRanges.{MayHaveRate, MayHaveChannels}
use Rattle.port_model.specs.declared.port_state.Node.{Node}
use Rattle.port_model.specs.declared.port_state.PortState.{PortState}
use Rattle.port_model.proofs.NodeLemmas.{port_at}
use Rattle.port_model.proofs.FormLemmas.{rate_in_range, channels_in_range}
use Rattle.port_model.proofs.ports.Ports.sound.Goals as goal

pub returns-clause-range : goal.returns-clause-range
returns-clause-range c =
    let nodes = c.args.self.now in
    let port = c.args.port in
    let n = c.node_at-node.result.now in
    let s = c.state_at-state.result.now in
    let rate = c.in_ok-rate.rate in
    let channels = c.in_ok-channels.channels in
    let here : slice_get nodes port.node ≡ Some n = ap (λ (ns : List Node). slice_get ns port.node)
    (sym (c.as_slice.ensures ∙ c.self.view_is)) ∙ c.node_at-node.ensures.node in
    port_at (λ (node : Node) (t : PortState). MayHaveRate node.kind rate × MayHaveChannels node.kind port.port channels)
    nodes port n s here c.state_at-state.ensures.state (
      rate_in_range n port.port s rate c.node_at-node.ensures.sound c.state_at-state.ensures.sound c.in_ok-rate.ensures,
      channels_in_range n port.port s channels c.node_at-node.ensures.sound c.state_at-state.ensures.sound c.in_ok-channels.ensures,
    )
