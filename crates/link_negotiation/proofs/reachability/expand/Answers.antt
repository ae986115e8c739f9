-- Each turn reaches what one link leads to, and goes back to the one before it.
use Rattle.std.proofs.Common.{ℕ, ◌-◌, true, get_or, ap, ◌∙◌, sym, subst, arith}
use Rattle.std.proofs.Math.ListN.{set}
use Rattle.link_negotiation.specs.declared.link.Link.{Link}
use Rattle.link_negotiation.specs.Links.{LinkState}
use Rattle.link_negotiation.specs.working.Searching.{IsBounded}
use Rattle.link_negotiation.proofs.SearchingLemmas.{IsExpanding, expanding_begins, expanding_goes_on, expanding_ends}
use Rattle.link_negotiation.proofs.reachability.expand.Goals as goal

pub links-init : goal.links-init
links-init c = subst (λ (at : ℕ). IsExpanding c.args.links.now c.args.node at c.args.reached.now c.args.reached.now) (sym c.from-at.ensures)
    (expanding_begins c.args.links.now c.args.node c.args.outgoing.now c.args.reached.now c.requires.node c.requires.queue
    c.requires.outgoing)

pub links-preserved : goal.links-preserved
links-preserved c = subst (λ (at : ℕ). IsExpanding c.args.links.now c.args.node at c.args.reached.now c.reach.new.self)
    (sym c.from-at-in-links.ensures)
    (expanding_goes_on c.args.links.now c.args.node c.links.at c.args.outgoing.now c.index.result.now c.args.reached.now c.links.reached
    c.reach.new.self (subst IsBounded c.links-2.view_is c.links-2.invariant) c.requires.outgoing c.links.invariant c.links-test.true
    c.reach.ensures.queue c.reach.ensures.longer (c.reach.ensures.here
    ∙ ap (λ (l : Link). set c.links.reached.here l.to.node true)
    (c.index.ensures ∙ ap (λ (s : LinkState). get_or s.made (c.links.at - 1) c.index.result.now) c.links-2.view_is)))

pub returns : goal.returns
returns c = expanding_ends c.args.links.now c.args.node c.links.at c.args.reached.now c.links.reached
    (omega (arith, c.links-test.false)) c.links.invariant
