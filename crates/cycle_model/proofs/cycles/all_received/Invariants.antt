use Rattle.std.proofs.Common.{length}
use Rattle.cycle_model.specs.Cycle.{outputs}
use Rattle.cycle_model.specs.Progress.{received_until, AreReceived, TellsBefore}
use Rattle.cycle_model.proofs.cycles.all_received.Given as goal

abbrev pub invariant-loop-cycle : goal.invariant-loop-cycle
invariant-loop-cycle l = record {
  received : AreReceived (length l.plan.nodes) (received_until l.plan (outputs l.plan l.waves) l.cycle) l.received;
  told : TellsBefore l.plan (outputs l.plan l.waves) l.cycle l.before;
}
