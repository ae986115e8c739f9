use Rattle.std.proofs.Common.{◌≡◌, ℕ}
use Rattle.ready_queues.specs.Ends.{AreEndsOf, AreSameSights, received_by}
use Rattle.ready_queues.proofs.SendLemmas.{IsSentUntil}
use Rattle.ready_queues.proofs.ways.Ways.send_all.Given as goal

abbrev pub invariant-loop-node : goal.invariant-loop-node
invariant-loop-node g l = AreEndsOf l.self.owner l.self.lanes l.ends
    × ((from : ℕ) × IsSentUntil l.self.owner l.self.loops l.spared l.woke l.fn.ends l.rest l.full l.ends from)
    × (received_by l.ends ≡ received_by l.fn.ends)
    × AreSameSights l.fn.ends l.ends

abbrev pub decreases-loop-node : goal.decreases-loop-node
decreases-loop-node g l = l.rest
