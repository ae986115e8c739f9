-- Nor does a link that goes.
use Rattle.link_tests.proofs.KeptLemmas.{unlink_keeps, counted_still}
use Rattle.link_tests.proofs.graph.Graph.unlink.Goals as goal

pub invariant_of-self : goal.invariant_of-self
invariant_of-self c = record {
  counted = counted_still c.args.self.now.ports c.unlink.new.ports c.args.self.now.inputs c.args.self.now.counts
      (unlink_keeps c.args.self.now.links c.unlink.new.self c.args.self.now.ports c.unlink.new.ports c.args.from c.args.to c.args.keep
      c.unlink.result c.unlink.ensures) c.args.self.now.counted;
}
