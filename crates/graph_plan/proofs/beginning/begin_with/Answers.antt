-- All start from one graph.
use Rattle.std.proofs.Common.{refl}
use Rattle.graph_plan.proofs.linked_parts.PartedLemmas.{begun_is, members_ready}
use Rattle.graph_plan.proofs.beginning.begin_with.Goals as goal

pub returns-clause-begun : goal.returns-clause-begun
returns-clause-begun c = begun_is c.args.lines.now c.args.ports c.in_ok-whole.whole c.in_ok-whole.ensures.start c.args.parts
    (record { whole = c.in_ok-whole.whole; members = c.in_ok-members.members; lines = c.new.result }) c.in_ok-members.ensures refl c.new.ensures

pub returns-clause-ready : goal.returns-clause-ready
returns-clause-ready c = record {
  whole = c.in_ok-whole.ensures.sound;
  members = members_ready c.args.lines.now c.args.ports c.in_ok-whole.whole c.in_ok-whole.ensures.start c.args.parts c.in_ok-members.members
      c.in_ok-members.ensures;
}
