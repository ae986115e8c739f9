use Rattle.std.proofs.Common.{◌≡◌, ◌<◌}
use Rattle.crossbeam_utils.specs.Token.{parker_view}
use Rattle.ready_queues.specs.Starting.{IsStarted}
use Rattle.steal_loops.specs.working.Claimants.{IsClaimant}
use Rattle.steal_loops.proofs.workers.run_worker.Given as goal

abbrev pub invariant-loop : goal.invariant-loop
invariant-loop g l = record {
  next : (goal.iterator-loop g).can_next l.iterator';
  finite : (goal.iterator-loop g).is_finite l.iterator';
  claimant : IsClaimant l.shared l.claimant;
  own : l.claimant.way.number < l.shared.ways.loops;
  started : IsStarted l.claimant.way;
  awake : parker_view l.claimant.way.own ≡ parker_view l.fn.claimant.way.own;
}
