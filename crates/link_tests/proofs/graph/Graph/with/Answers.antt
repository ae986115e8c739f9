-- One node more, and its counts.
use Rattle.std.proofs.Common.{arith}
use Rattle.port_model.specs.Offers.{new_node}
use Rattle.link_tests.proofs.KeptLemmas.{counted_added}
use Rattle.link_tests.proofs.graph.Graph.with.Goals as goal

pub invariant_of-result : goal.invariant_of-result
invariant_of-result c = record {
  counted = counted_added c.args.self.ports c.add.new.self c.args.self.inputs c.push.new.self c.args.self.counts c.push-2.new.self
      (new_node c.args.kind.now c.args.rate c.args.channels) _ _ c.inputs-2.ensures
      (omega (arith, c.inputs-4.ensures, c.outputs.ensures))
      c.in_ok-add.ensures.ok c.in_ok-push.ensures.ok c.in_ok-push-2.ensures.ok c.args.self.counted;
}
