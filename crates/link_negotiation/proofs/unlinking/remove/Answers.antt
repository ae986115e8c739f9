-- Each turn takes one link out or passes it.
use Rattle.std.proofs.Common.{◌≡◌, ◌<◌, ◌≤◌, List, length, get_or, sym, ap, ◌∙◌, subst, rules, true, false}
use Rattle.link_negotiation.specs.declared.link.Link.{Link}
use Rattle.link_negotiation.specs.Links.{joins}
use Rattle.link_negotiation.proofs.UnlinkLemmas.{IsTaken, taken_out, passed_by, all_passed}
use Rattle.link_negotiation.proofs.unlinking.remove.Goals as goal

pub links-preserved-then-joins : goal.links-preserved-then-joins
links-preserved-then-joins c =
    let made = c.links.made.items in
    let inside : c.links.at < length made = search rules in
    let joined : joins c.args.from c.args.to (get_or made c.links.at c.index.result.now) ≡ true =
    ap (joins c.args.from c.args.to) (sym c.index.ensures) ∙ sym c.if-joins.ensures in
    subst (λ (ls : List Link). IsTaken c.args.from c.args.to c.args.made.now.items ls c.links.at) (sym c.remove.ensures.items)
    (taken_out c.args.from c.args.to c.args.made.now.items made c.links.at c.index.result.now inside joined c.links.invariant)

pub links-preserved : goal.links-preserved
links-preserved c =
    let made = c.links.made.items in
    let inside : c.links.at < length made = search rules in
    let other : joins c.args.from c.args.to (get_or made c.links.at c.index.result.now) ≡ false =
    ap (joins c.args.from c.args.to) (sym c.index.ensures) ∙ sym c.if-joins.ensures in
    passed_by c.args.from c.args.to c.args.made.now.items made c.links.at c.index.result.now inside other c.links.invariant

pub returns : goal.returns
returns c =
    let made = c.links.made.items in
    let end : length made ≤ c.links.at = search rules in
    all_passed c.args.from c.args.to c.args.made.now.items made c.links.at end c.links.invariant
