use Rattle.std.proofs.Common.{◌≡◌}
use Rattle.steal_loops.specs.working.Claimants.{IsClaimant}
use Rattle.steal_loops.proofs.ready.visit_ready.Given as goal

abbrev pub invariant-loop : goal.invariant-loop
invariant-loop g l = record {
  claimant : IsClaimant l.shared l.claimant;
  number : l.claimant.way.number ≡ l.fn.claimant.way.number;
}
