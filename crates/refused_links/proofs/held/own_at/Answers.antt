-- What is offered without formats is the own offer.
use Rattle.std.proofs.Common.{◌≡◌, Option, sym, subst}
use Rattle.format_filter.specs.declared.choice.Choice.{Choice}
use Rattle.port_model.specs.PortState.{AtPort}
use Rattle.link_negotiation.proofs.MayBeGivenLemmas.{there}
use Rattle.refused_links.specs.Sides.{choice_at}
use Rattle.refused_links.proofs.HeldLemmas.{own_held}
use Rattle.refused_links.proofs.held.own_at.Goals as goal

pub returns : goal.returns
returns c = subst (λ (own : Option Choice). AtPort c.args.ports.now c.args.port (λ node s. own ≡ choice_at s.own c.args.key))
    (sym c.in_ok-own.ensures)
    (own_held c.args.ports.now c.args.port (there c.args.ports.now c.args.port c.in_ok-offered.ensures.nodes c.requires) c.in_ok-offered.offered
    c.args.key c.in_ok-offered.ensures.free)
