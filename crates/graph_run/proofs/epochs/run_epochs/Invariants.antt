use Rattle.std.proofs.Common.{◌≡◌, length}
use Rattle.data_loop.specs.LoopWay.{IsDriverWay}
use Rattle.driver_cycle.specs.Settling.{AreEach}
use Rattle.graph_run.specs.Leads.{HaveLed, HaveLooked}
use Rattle.graph_run.specs.LoopsOnPlan.{HasCome}
use Rattle.graph_run.proofs.epochs.run_epochs.Given as goal

abbrev pub invariant-loop-k : goal.invariant-loop-k
invariant-loop-k g l = record {
  end : l.k-end ≡ length l.course.boards.now;
  own : HasCome l.k l.fn.own l.own;
  adopted : AreEach (HasCome l.k) l.fn.adopted l.adopted;
  led : HaveLed l.k l.course.boards.now l.fn.drivers l.drivers;
  looked : HaveLooked l.fn.drivers l.drivers (g.K.Ticker.ticks l.fn.ticker) (g.K.Ticker.ticks l.ticker);
  way : IsDriverWay l.course.ways.now l.way;
}
