use Rattle.std.proofs.Common.{◌≡◌, [], refl, sym, subst}
use Rattle.board_rule.specs.Known.{Known}
use Rattle.driver_cycle.specs.Epochs.{HasGoneOn}
use Rattle.driver_cycle.proofs.ThreadLemmas.{no_round, more_rounds, begun_on}
use Rattle.steal_loops.proofs.ClaimantLemmas.{again}
use Rattle.steal_loops.proofs.epoch.run_cycles.Goals as goal

pub loop-seat-init : goal.loop-seat-init
loop-seat-init g c = record {
  gone = no_round c.args.at.now.board.now c.args.seat.now c.args.own.now [] (g.K.Ticker.ticks c.args.ticker.now) c.requires.thread;
  between = c.requires.between;
  scan = c.requires.scan;
}

pub loop-seat-preserved : goal.loop-seat-preserved
loop-seat-preserved g c = let b = c.args.at.now.board.now in let a = c.loop-seat in let m = g.K.Ticker.ticks a.ticker in
    let thread = a.invariant.gone.thread in let s = c.begin_sent.new.seat in record {
      gone = more_rounds b c.args.seat.now c.args.own.now [] (g.K.Ticker.ticks c.args.ticker.now) a.seat a.own [] m
          a.invariant.gone c.run_cycle.new.seat c.run_cycle.new.own [] (g.K.Ticker.ticks c.run_cycle.new.ticker)
          (more_rounds b a.seat a.own [] m s a.own [] m
          (begun_on b a.seat s a.own [] m thread (c.begin_sent.ensures.leads a.own.run_model a.own.epoch thread.leads)
          c.loop-seat-test.ensures.begun.1)
          c.run_cycle.new.seat c.run_cycle.new.own [] (g.K.Ticker.ticks c.run_cycle.new.ticker) c.run_cycle.ensures.gone);
      between = c.run_cycle.ensures.between;
      scan = c.run_cycle.ensures.scan;
    }

pub begin_sent-requires-clause-way : goal.begin_sent-requires-clause-way
begin_sent-requires-clause-way g c = let p = c.loop-seat.invariant.scan in (p.0.answered, p.1)

pub run_cycle-requires-clause-thread : goal.run_cycle-requires-clause-thread
run_cycle-requires-clause-thread g c = let b = c.args.at.now.board.now in let a = c.loop-seat in let thread = a.invariant.gone.thread in
    (begun_on b a.seat c.begin_sent.new.seat a.own [] (g.K.Ticker.ticks a.ticker) thread
    (c.begin_sent.ensures.leads a.own.run_model a.own.epoch thread.leads) c.loop-seat-test.ensures.begun.1).thread

pub run_cycle-requires-clause-scan : goal.run_cycle-requires-clause-scan
run_cycle-requires-clause-scan g c = let p = c.loop-seat.invariant.scan in let w = c.begin_sent.ensures.way in
    (again c.args.at.now.shared.now c.loop-seat.scan.claimant _ p.0 refl w.0 refl, w.1)

pub returns-clause-gone : goal.returns-clause-gone
returns-clause-gone g c = let a = c.loop-seat in let e = c.loop-seat-test.ensures in let ticks = g.K.Ticker.ticks in
    let same : c.begin_sent.new.seat ≡ a.seat = λ i. record { table = e.table i; knows = e.begun.1 i } in
    subst (λ (x : Known). HasGoneOn c.args.at.now.board.now c.args.seat.now c.args.own.now [] (ticks c.args.ticker.now) x a.own []
    (ticks a.ticker)) (sym same) a.invariant.gone

pub returns-clause-scan : goal.returns-clause-scan
returns-clause-scan g c = let p = c.loop-seat.invariant.scan in let w = c.begin_sent.ensures.way in
    (again c.args.at.now.shared.now c.loop-seat.scan.claimant _ p.0 refl w.0 refl, w.1)
