use Rattle.std.proofs.Common.{◌≡◌}
use Rattle.board_rule.specs.OnBoard.{layout}
use Rattle.data_loop.specs.LoopWay.{IsDriverWay}
use Rattle.driver_cycle.specs.Leading.{IsWaiting}
use Rattle.driver_cycle.specs.Courses.{HaveMadeRounds}
use Rattle.driver_cycle.specs.Epochs.{HasGoneOn}
use Rattle.driver_cycle.proofs.epoch.run_cycle.Given as goal

abbrev pub invariant-loop : goal.invariant-loop
invariant-loop g l = record {
  can_next : (goal.iterator-loop g).can_next l.iterator';
  finite : (goal.iterator-loop g).is_finite l.iterator';
  gone : HasGoneOn l.at.board.now l.fn.seat l.fn.own l.fn.adopted (g.K.Ticker.ticks l.fn.ticker) l.seat l.own l.adopted (g.K.Ticker.ticks l.ticker);
  waits : IsWaiting (layout l.at.board.now) l.seat.knows;
  cycle : l.seat.knows.lead.cycle ≡ l.fn.seat.knows.lead.cycle;
  checked : l.checked ≡ l.seat.knows.lead.checked;
  rounds : HaveMadeRounds g.K.Ticker.ticks g.K.Ticker.answers (layout l.at.board.now) l.at.ways.now
      record { seat = l.fn.seat; own = l.fn.own; adopted = l.fn.adopted; way = l.fn.way; ticker = l.fn.ticker }
      record { seat = l.seat; own = l.own; adopted = l.adopted; way = l.way; ticker = l.ticker };
  way : IsDriverWay l.at.ways.now l.way;
}
