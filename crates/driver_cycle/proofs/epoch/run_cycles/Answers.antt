use Rattle.std.proofs.Common.{◌≡◌, suc, refl, sym, subst}
use Rattle.board_rule.specs.OnBoard.{layout}
use Rattle.driver_cycle.specs.Courses.{HaveMadeCycles}
use Rattle.board_rule.specs.Known.{Known}
use Rattle.driver_cycle.specs.Epochs.{HasGoneOn}
use Rattle.driver_cycle.proofs.ThreadLemmas.{no_round, more_rounds, begun_on}
use Rattle.driver_cycle.proofs.epoch.run_cycles.Goals as goal

pub loop-seat-init : goal.loop-seat-init
loop-seat-init g c = record {
  gone = no_round c.args.at.now.board.now c.args.seat.now c.args.own.now c.args.adopted.now (g.K.Ticker.ticks c.args.ticker.now) c.requires.thread;
  between = c.requires.between;
  cycles = (0, refl);
  way = c.requires.way;
}

pub loop-seat-preserved : goal.loop-seat-preserved
loop-seat-preserved g c = let b = c.args.at.now.board.now in let a = c.loop-seat in let m = g.K.Ticker.ticks a.ticker in
    let thread = a.invariant.gone.thread in let s = c.begin_sent.new.seat in record {
      gone = more_rounds b c.args.seat.now c.args.own.now c.args.adopted.now (g.K.Ticker.ticks c.args.ticker.now) a.seat a.own a.adopted m
          a.invariant.gone c.run_cycle.new.seat c.run_cycle.new.own c.run_cycle.new.adopted (g.K.Ticker.ticks c.run_cycle.new.ticker)
          (more_rounds b a.seat a.own a.adopted m s a.own a.adopted m
          (begun_on b a.seat s a.own a.adopted m thread (c.begin_sent.ensures.leads a.own.run_model a.own.epoch thread.leads)
          c.loop-seat-test.ensures.begun.1)
          c.run_cycle.new.seat c.run_cycle.new.own c.run_cycle.new.adopted (g.K.Ticker.ticks c.run_cycle.new.ticker) c.run_cycle.ensures.gone);
      between = c.run_cycle.ensures.between;
      cycles = (
        suc a.invariant.cycles.0,
        (
          record { seat = a.seat; own = a.own; adopted = a.adopted; way = a.way; ticker = a.ticker },
          a.invariant.cycles.1,
          record {
            begun = record { seat = s; own = a.own; adopted = a.adopted; way = c.begin_sent.new.way; ticker = a.ticker };
            begins = record {
              begins = c.loop-seat-test.ensures.begun;
              sends = c.loop-seat-test.ensures.sent;
              own = refl;
              adopted = refl;
              ticker = refl;
            };
            rounds = c.run_cycle.ensures.rounds;
          },
        ),
      );
      way = c.run_cycle.ensures.way;
    }

pub run_cycle-requires-clause-thread : goal.run_cycle-requires-clause-thread
run_cycle-requires-clause-thread g c = let b = c.args.at.now.board.now in let a = c.loop-seat in let thread = a.invariant.gone.thread in
    (begun_on b a.seat c.begin_sent.new.seat a.own a.adopted (g.K.Ticker.ticks a.ticker) thread
    (c.begin_sent.ensures.leads a.own.run_model a.own.epoch thread.leads) c.loop-seat-test.ensures.begun.1).thread

pub returns-clause-gone : goal.returns-clause-gone
returns-clause-gone g c = let a = c.loop-seat in let e = c.loop-seat-test.ensures in let ticks = g.K.Ticker.ticks in
    let same : c.begin_sent.new.seat ≡ a.seat = λ i. record { table = e.table i; knows = e.begun.1 i } in
    subst (λ (x : Known). HasGoneOn c.args.at.now.board.now c.args.seat.now c.args.own.now c.args.adopted.now (ticks c.args.ticker.now) x a.own a.adopted
    (ticks a.ticker)) (sym same) a.invariant.gone

pub returns-clause-cycles : goal.returns-clause-cycles
returns-clause-cycles g c = let a = c.loop-seat in let e = c.loop-seat-test.ensures in
    let same : c.begin_sent.new.seat ≡ a.seat = λ i. record { table = e.table i; knows = e.begun.1 i } in
    subst (HaveMadeCycles g.K.Ticker.ticks g.K.Ticker.answers (layout c.args.at.now.board.now) c.args.at.now.ways.now
    record { seat = c.args.seat.now; own = c.args.own.now; adopted = c.args.adopted.now; way = c.args.way.now; ticker = c.args.ticker.now })
    (λ i. record { seat = sym same i; own = a.own; adopted = a.adopted; way = sym e.sent i; ticker = a.ticker }) a.invariant.cycles
