-- The nodes of a link that is there have numbers below 64, and a release keeps how many nodes there
-- are.
use Rattle.std.proofs.Common.{◌≡◌, ℕ, ◌<◌, ◌≤◌, List, length, sym, ap, ◌∙◌, subst, arith, true, not}
use Rattle.std.specs.List.{All}
use Rattle.std.proofs.lemmas.List.Elements.{All-filter}
use Rattle.port_model.specs.declared.port_state.Node.{Node}
use Rattle.link_negotiation.specs.declared.link.Link.{Link}
use Rattle.link_negotiation.specs.Links.{are_linked, joins}
use Rattle.link_negotiation.proofs.UnlinkLemmas.{fewer_links, linked_below, node_there, input_there, length-releasing}
use Rattle.link_negotiation.proofs.links.Links.unlink.Goals as goal

pub release-first-requires-clause-below : goal.release-first-requires-clause-below
release-first-requires-clause-below c =
    let linked : are_linked c.self.inside.made.items c.args.from c.args.to ≡ true =
    ap (λ (ls : List Link). are_linked ls c.args.from c.args.to) (sym c.as_slice.ensures.value) ∙ sym c.if-not-are_linked.ensures in
    (linked_below c.self.inside.made.items c.args.from c.args.to c.self.invariant.links linked).0

pub release-gave_up-requires-clause-node : goal.release-gave_up-requires-clause-node
release-gave_up-requires-clause-node c =
    let count : length c.release-first.new.ports ≡ length c.args.ports.now =
    ap (λ (ns : List Node). length ns) c.release-first.ensures.ports
    ∙ length-releasing c.as_slice-2.result.now c.args.keep c.args.from.node c.args.ports.now in
    subst (λ (n : ℕ). c.args.to.node < n) (sym count)
    (node_there c.args.ports.now c.args.to (input_there c.args.ports.now c.args.to c.requires.to))

pub release-gave_up-requires-clause-below : goal.release-gave_up-requires-clause-below
release-gave_up-requires-clause-below c =
    let linked : are_linked c.self.inside.made.items c.args.from c.args.to ≡ true =
    ap (λ (ls : List Link). are_linked ls c.args.from c.args.to) (sym c.as_slice.ensures.value) ∙ sym c.if-not-are_linked.ensures in
    (linked_below c.self.inside.made.items c.args.from c.args.to c.self.invariant.links linked).1

pub invariant_of-self : goal.invariant_of-self
invariant_of-self c = record {
  links = subst (λ (ls : List Link). All (λ (l : Link). (l.from.node < 64) × (l.to.node < 64)) ls) (sym c.remove.ensures)
      (All-filter (λ (l : Link). not (joins c.args.from c.args.to l))
      (λ (l : Link). (l.from.node < 64) × (l.to.node < 64)) c.self.inside.made.items c.self.invariant.links);
  marks = c.self.invariant.marks;
  few = subst (λ (ls : List Link). length ls ≤ 256) (sym c.remove.ensures)
      (omega (arith, fewer_links (λ (l : Link). not (joins c.args.from c.args.to l)) c.self.inside.made.items, c.self.invariant.few));
}
