use Rattle.std.proofs.Common.{sym, subst}
use Rattle.std.specs.Prelude.{List, IsSome}
use Rattle.port_model.specs.declared.port_state.Node.{Node}
use Rattle.port_model.specs.PortState.{IsPort, AtPort}
use Rattle.link_negotiation.specs.declared.negotiation.Linked.{Linked}
use Rattle.link_negotiation.specs.LinkOutcome.{IsLinkOutcome, LeavesLink}
use Rattle.graph_lines.proofs.LinkingLemmas.{output_has, port_kept}
use Rattle.graph_lines.proofs.graph.Graph.link_line.Goals as goal

pub form_at-rate-requires-clause-port : goal.form_at-rate-requires-clause-port
form_at-rate-requires-clause-port c =
    let g = c.args.self.now in
    let leaves = subst (λ (l : Linked). LeavesLink g.links g.ports c.args.from c.args.to l c.link.new.self c.link.new.ports) c.in-Made.is
    c.in_ok-buffers.ensures.leaves in
    subst (λ (nodes : List Node). IsPort nodes c.args.from) (sym leaves.1) (port_kept g.ports c.args.from c.args.to c.args.from c.in-Made.format c.requires.from.1)

pub form_at-rate-requires-clause-format : goal.form_at-rate-requires-clause-format
form_at-rate-requires-clause-format c =
    let g = c.args.self.now in
    let leaves = subst (λ (l : Linked). LeavesLink g.links g.ports c.args.from c.args.to l c.link.new.self c.link.new.ports) c.in-Made.is
    c.in_ok-buffers.ensures.leaves in
    let outcome = subst (λ (l : Linked). IsLinkOutcome g.links g.ports c.args.from c.args.to l) c.in-Made.is c.in_ok-buffers.ensures.outcome in
    subst (λ (nodes : List Node). AtPort nodes c.args.from (λ node s. IsSome s.format)) (sym leaves.1)
    (output_has g.ports c.args.from c.args.to c.in-Made.format c.has_format-known.ensures.nodes c.requires.from.1 outcome.0.other)
