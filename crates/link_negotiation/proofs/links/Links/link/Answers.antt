-- The outcome is the only right one.
use Rattle.link_negotiation.proofs.OneLinkOutcomeLemmas.{only_outcome}
use Rattle.link_negotiation.proofs.links.Links.link.Goals as goal

pub returns-clause-only : goal.returns-clause-only
returns-clause-only c = λ other h. only_outcome c.args.self.now c.args.ports.now c.args.from c.args.to c.requires.from c.requires.to
    c.in_ok-linked.ensures.nodes c.in_ok-linked.linked other c.in_ok-linked.ensures.outcome h
