-- The format is one that both ports may take, and the first one's node is not the second one's.
use Rattle.std.proofs.Common.{◌≡◌, ℕ, ◌<◌, subst, sym, ap, ◌∙◌, List}
use Rattle.format_filter.specs.declared.format.Format.{Format}
use Rattle.port_model.specs.declared.port_state.Node.{Node}
use Rattle.port_model.specs.PortState.{AtPort, port_count_of}
use Rattle.port_model.proofs.NodeLemmas.{count_kept}
use Rattle.link_negotiation.specs.LinkOutcome.{MayBeGiven, given}
use Rattle.link_negotiation.proofs.MayBeGivenLemmas.{gives_own, gives_other, elsewhere}
use Rattle.link_negotiation.proofs.links.Links.make.Goals as goal

pub give-requires-clause-format : goal.give-requires-clause-format
give-requires-clause-format c = λ sound.
    subst (λ (f : Format). AtPort c.args.ports.now c.args.link.from (MayBeGiven f)) (sym c.in_ok-own.ensures)
    (gives_own c.args.ports.now c.args.link.from c.args.link.to c.args.format.now sound c.requires.from c.requires.format)

pub give-requires-2-clause-port : goal.give-requires-2-clause-port
give-requires-2-clause-port c =
    let count : port_count_of c.give.new.ports c.args.link.to.node ≡ port_count_of c.args.ports.now c.args.link.to.node =
    ap (λ (ns : List Node). port_count_of ns c.args.link.to.node) c.give.ensures.given
    ∙ count_kept c.args.ports.now c.args.link.from (given c.in_ok-own.own) c.args.link.to.node in
    subst (λ (n : ℕ). c.args.link.to.port < n) (sym count) c.requires.to

pub give-requires-2-clause-format : goal.give-requires-2-clause-format
give-requires-2-clause-format c = λ sound.
    let may = gives_other c.args.ports.now c.args.link.from c.args.link.to c.args.format.now c.give.ensures.nodes c.requires.to
    c.requires.format in
    let own = subst (λ (f : Format). AtPort c.args.ports.now c.args.link.to (MayBeGiven f)) (sym c.in_ok-other.ensures) may in
    subst (λ (ns : List Node). AtPort ns c.args.link.to (MayBeGiven c.in_ok-other.other)) (sym c.give.ensures.given)
    (elsewhere (MayBeGiven c.in_ok-other.other) c.args.ports.now c.args.link.from c.args.link.to
    (given c.in_ok-own.own) c.requires.other own)
