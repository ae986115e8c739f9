use Rattle.std.proofs.Common.{◌-◌}
use Rattle.board_rule.specs.Layout.{last}
use Rattle.board_rule.specs.OnBoard.{layout}
use Rattle.data_loop.specs.LoopWay.{IsDriverWay}
use Rattle.driver_cycle.specs.Leading.{IsBetween}
use Rattle.driver_cycle.specs.Courses.{HaveMadeCycles}
use Rattle.driver_cycle.specs.Epochs.{HasGoneOn}
use Rattle.driver_cycle.proofs.epoch.run_cycles.Given as goal

abbrev pub invariant-loop-seat : goal.invariant-loop-seat
invariant-loop-seat g l = record {
  gone : HasGoneOn l.at.board.now l.fn.seat l.fn.own l.fn.adopted (g.K.Ticker.ticks l.fn.ticker) l.seat l.own l.adopted (g.K.Ticker.ticks l.ticker);
  between : IsBetween (layout l.at.board.now) l.seat.knows;
  cycles : HaveMadeCycles g.K.Ticker.ticks g.K.Ticker.answers (layout l.at.board.now) l.at.ways.now
      record { seat = l.fn.seat; own = l.fn.own; adopted = l.fn.adopted; way = l.fn.way; ticker = l.fn.ticker }
      record { seat = l.seat; own = l.own; adopted = l.adopted; way = l.way; ticker = l.ticker };
  way : IsDriverWay l.at.ways.now l.way;
}

abbrev pub decreases-loop-seat : goal.decreases-loop-seat
decreases-loop-seat g l = last (layout l.at.board.now) - l.seat.knows.lead.cycle
