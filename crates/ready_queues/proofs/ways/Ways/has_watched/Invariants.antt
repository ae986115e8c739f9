use Rattle.std.proofs.Common.{◌≡◌}
use Rattle.ready_queues.specs.Ends.{AreEndsOf, received_by}
use Rattle.ready_queues.specs.Watching.{AreLookedAt}
use Rattle.ready_queues.proofs.ForwardLemmas.{AreFound}
use Rattle.ready_queues.proofs.ways.Ways.has_watched.Given as goal

abbrev pub invariant-loop-node : goal.invariant-loop-node
invariant-loop-node l = record {
  ends : AreEndsOf l.self.owner l.self.lanes l.ends;
  looked : AreLookedAt l.fn.ends l.ends;
  found : AreFound l.self.owner l.self.loops l.woke l.rest l.ends;
  count : received_by l.ends ≡ received_by l.fn.ends;
}

abbrev pub decreases-loop-node : goal.decreases-loop-node
decreases-loop-node l = l.rest
