use Rattle.std.proofs.Common.{ℕ, [], true≢false, refl, sym, ◌∙◌, subst}
use Rattle.board_rule.specs.OnBoard.{layout}
use Rattle.board_rule.specs.Known.{Known}
use Rattle.data_loop.specs.declared.loop_state.LoopState.{LoopState}
use Rattle.driver_cycle.specs.Leading.{IsBetween}
use Rattle.driver_cycle.specs.Epochs.{HasGoneOn}
use Rattle.driver_cycle.proofs.ThreadLemmas.{no_round, more_rounds}
use Rattle.steal_loops.specs.working.Claimants.{IsScan}
use Rattle.steal_loops.proofs.epoch.run_cycle.Goals.{in-None, in-Some+then-go_round}
use Rattle.steal_loops.proofs.epoch.run_cycle.Goals as goal

pub loop-init : goal.loop-init
loop-init g c = record {
  can_next = tt;
  finite = tt;
  gone = no_round c.args.at.now.board.now c.args.seat.now c.args.own.now [] (g.K.Ticker.ticks c.args.ticker.now) c.requires.thread;
  waits = c.requires.waits;
  cycle = refl;
  checked = sym c.requires.unchecked;
  scan = c.requires.scan;
}

pub loop-preserved : goal.loop-preserved
loop-preserved g c = let r = c.if-go_round.ensures.round in record {
  can_next = tt;
  finite = tt;
  gone = more_rounds c.args.at.now.board.now c.args.seat.now c.args.own.now [] (g.K.Ticker.ticks c.args.ticker.now)
      c.loop.seat c.loop.own [] (g.K.Ticker.ticks c.loop.ticker) c.loop.invariant.gone
      c.go_round.new.seat c.go_round.new.own [] (g.K.Ticker.ticks c.go_round.new.ticker) c.go_round.ensures.gone;
  waits = r.0;
  cycle = r.1 ∙ c.loop.invariant.cycle;
  checked = r.2;
  scan = c.go_round.ensures.scan;
}

pub returns-clause-gone : goal.returns-clause-gone
returns-clause-gone g c = elim c.match-next.branch [
  | in-None w ↦ absurd (true≢false (sym w.in-None.ensures.steps))
  | in-Some+then-go_round w ↦
      subst (λ (x : Known × LoopState × ℕ). HasGoneOn c.args.at.now.board.now c.args.seat.now c.args.own.now []
      (g.K.Ticker.ticks c.args.ticker.now) x.0 x.1 [] x.2)
      (λ i. (sym w.seat-is i, sym w.own-is i, g.K.Ticker.ticks (sym w.ticker-is i)))
      (more_rounds c.args.at.now.board.now c.args.seat.now c.args.own.now [] (g.K.Ticker.ticks c.args.ticker.now)
      c.loop.seat c.loop.own [] (g.K.Ticker.ticks c.loop.ticker) c.loop.invariant.gone
      w.go_round.new.seat w.go_round.new.own [] (g.K.Ticker.ticks w.go_round.new.ticker) w.go_round.ensures.gone)
]

pub returns-clause-between : goal.returns-clause-between
returns-clause-between g c = elim c.match-next.branch [
  | in-None w ↦ absurd (true≢false (sym w.in-None.ensures.steps))
  | in-Some+then-go_round w ↦ subst (λ (x : Known). IsBetween (layout c.args.at.now.board.now) x.knows) (sym w.seat-is) w.if-go_round.ensures.round.0
]

pub returns-clause-scan : goal.returns-clause-scan
returns-clause-scan g c = elim c.match-next.branch [
  | in-None w ↦ absurd (true≢false (sym w.in-None.ensures.steps))
  | in-Some+then-go_round w ↦ subst (IsScan c.args.at.now.shared.now) (sym w.scan-is) w.go_round.ensures.scan
]
