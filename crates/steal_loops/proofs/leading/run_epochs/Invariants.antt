use Rattle.std.proofs.Common.{◌≡◌, length}
use Rattle.graph_run.specs.Leads.{HaveLed, HaveLooked}
use Rattle.graph_run.specs.LoopsOnPlan.{HasCome}
use Rattle.steal_loops.specs.working.Claimants.{IsScan}
use Rattle.steal_loops.proofs.leading.run_epochs.Given as goal

abbrev pub invariant-loop-k : goal.invariant-loop-k
invariant-loop-k g l = record {
  end : l.k-end ≡ length l.shared.boards;
  own : HasCome l.k l.fn.own l.own;
  led : HaveLed l.k l.shared.boards l.fn.drivers l.drivers;
  looked : HaveLooked l.fn.drivers l.drivers (g.K.Ticker.ticks l.fn.ticker) (g.K.Ticker.ticks l.ticker);
  scan : IsScan l.shared l.scan;
}
