-- Nor does a number of buffers.
use Rattle.std.proofs.Common.{List, sym, subst}
use Rattle.port_model.specs.declared.port_state.Node.{Node}
use Rattle.port_model.specs.PortState.{with_port, buffered}
use Rattle.link_tests.specs.Counted.{AreCounted}
use Rattle.link_tests.proofs.KeptLemmas.{same_port, counted_still}
use Rattle.link_tests.proofs.graph.Graph.set_buffers.Goals as goal

pub invariant_of-self : goal.invariant_of-self
invariant_of-self c = record {
  counted = subst (λ (nodes : List Node). AreCounted nodes c.args.self.now.inputs c.args.self.now.counts) (sym c.set_buffers.ensures)
      (counted_still c.args.self.now.ports (with_port c.args.self.now.ports c.args.port (buffered c.args.n))
      c.args.self.now.inputs c.args.self.now.counts (same_port c.args.self.now.ports c.args.port (buffered c.args.n))
      c.args.self.now.counted);
}
