-- The node and its ports stay while the formats are given up.
use Rattle.std.proofs.Common.{◌≡◌, ◌<◌, List, length, sym, ap, ◌∙◌, subst}
use Rattle.port_model.specs.declared.port_state.Node.{Node}
use Rattle.port_model.specs.PortState.{IsPort, with_released}
use Rattle.link_negotiation.specs.Negotiation.{OffersAt}
use Rattle.link_negotiation.proofs.UnlinkLemmas.{node_there}
use Rattle.refused_links.proofs.HeldLemmas.{port_released}
use Rattle.refused_links.proofs.held.offered_alone.Goals as goal

pub give_up-requires : goal.give_up-requires
give_up-requires c = subst (λ (nodes : List Node). c.args.port.node < length nodes) (sym c.in_ok-free.ensures)
    (node_there c.args.ports.now c.args.port c.requires.port)

pub offered-requires : goal.offered-requires
offered-requires c =
    let e : c.give_up.new.self ≡ with_released c.args.ports.now c.args.port.node =
    c.give_up.ensures ∙ ap (λ (nodes : List Node). with_released nodes c.args.port.node) c.in_ok-free.ensures in
    subst (λ (nodes : List Node). IsPort nodes c.args.port) (sym e) (port_released c.args.ports.now c.args.port c.requires.port)

pub returns-clause-free : goal.returns-clause-free
returns-clause-free c =
    let e : c.give_up.new.self ≡ with_released c.args.ports.now c.args.port.node =
    c.give_up.ensures ∙ ap (λ (nodes : List Node). with_released nodes c.args.port.node) c.in_ok-free.ensures in
    subst (λ (nodes : List Node). OffersAt nodes c.args.port c.in_ok-offered.offered) e c.in_ok-offered.ensures.offers
