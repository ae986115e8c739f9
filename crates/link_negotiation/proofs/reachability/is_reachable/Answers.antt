-- What is reached when all are taken is what a walk leads to.
use Rattle.std.proofs.Common.{sym, ◌∙◌}
use Rattle.link_negotiation.proofs.SearchingLemmas.{search_begins, search_goes_on, search_ends, taken_below}
use Rattle.link_negotiation.proofs.reachability.is_reachable.Goals as goal

pub nodes-init : goal.nodes-init
nodes-init c = search_begins c.args.links.now c.args.from c.of-reached.result c.requires c.of-reached.ensures.queue
    c.of-reached.ensures.here

pub expand-requires-clause-node : goal.expand-requires-clause-node
expand-requires-clause-node c = taken_below c.args.links.now c.args.from c.nodes.taken c.nodes.reached c.nodes.invariant c.nodes-test.true

pub nodes-preserved : goal.nodes-preserved
nodes-preserved c = search_goes_on c.args.links.now c.args.from c.nodes.taken c.nodes.reached c.expand.new.reached c.nodes.invariant
    c.nodes-test.true c.expand.ensures

pub returns : goal.returns
returns c = (
  (λ t. c.nodes.invariant.walks c.args.to (sym c.is_in.ensures ∙ t)),
  (λ w. c.is_in.ensures ∙ search_ends c.args.links.now c.args.from c.args.to c.nodes.taken c.nodes.reached c.nodes.invariant
      c.nodes-test.false w),
)
