use Rattle.std.proofs.Common.{◌≡◌, []}
use Rattle.board_rule.specs.OnBoard.{layout}
use Rattle.driver_cycle.specs.Leading.{IsWaiting}
use Rattle.driver_cycle.specs.Epochs.{HasGoneOn}
use Rattle.steal_loops.specs.working.Claimants.{IsScan}
use Rattle.steal_loops.proofs.epoch.run_cycle.Given as goal

abbrev pub invariant-loop : goal.invariant-loop
invariant-loop g l = record {
  can_next : (goal.iterator-loop g).can_next l.iterator';
  finite : (goal.iterator-loop g).is_finite l.iterator';
  gone : HasGoneOn l.at.board.now l.fn.seat l.fn.own [] (g.K.Ticker.ticks l.fn.ticker) l.seat l.own [] (g.K.Ticker.ticks l.ticker);
  waits : IsWaiting (layout l.at.board.now) l.seat.knows;
  cycle : l.seat.knows.lead.cycle ≡ l.fn.seat.knows.lead.cycle;
  checked : l.checked ≡ l.seat.knows.lead.checked;
  scan : IsScan l.at.shared.now l.scan;
}
