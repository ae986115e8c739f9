-- A link changes no kinds.
use Rattle.link_tests.proofs.KeptLemmas.{link_same, counted_still}
use Rattle.link_tests.proofs.graph.Graph.link.Goals as goal

pub invariant_of-self : goal.invariant_of-self
invariant_of-self c = record {
  counted = counted_still c.args.self.now.ports c.link.new.ports c.args.self.now.inputs c.args.self.now.counts
      (link_same c.link.result c.args.self.now.links c.link.new.self c.args.self.now.ports c.link.new.ports c.args.from c.args.to
      c.link.ensures.leaves c.link.ensures.err) c.args.self.now.counted;
}
