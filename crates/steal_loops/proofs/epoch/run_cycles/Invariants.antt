use Rattle.std.proofs.Common.{◌-◌, []}
use Rattle.board_rule.specs.Layout.{last}
use Rattle.board_rule.specs.OnBoard.{layout}
use Rattle.driver_cycle.specs.Leading.{IsBetween}
use Rattle.driver_cycle.specs.Epochs.{HasGoneOn}
use Rattle.steal_loops.specs.working.Claimants.{IsScan}
use Rattle.steal_loops.proofs.epoch.run_cycles.Given as goal

abbrev pub invariant-loop-seat : goal.invariant-loop-seat
invariant-loop-seat g l = record {
  gone : HasGoneOn l.at.board.now l.fn.seat l.fn.own [] (g.K.Ticker.ticks l.fn.ticker) l.seat l.own [] (g.K.Ticker.ticks l.ticker);
  between : IsBetween (layout l.at.board.now) l.seat.knows;
  scan : IsScan l.at.shared.now l.scan;
}

abbrev pub decreases-loop-seat : goal.decreases-loop-seat
decreases-loop-seat g l = last (layout l.at.board.now) - l.seat.knows.lead.cycle
