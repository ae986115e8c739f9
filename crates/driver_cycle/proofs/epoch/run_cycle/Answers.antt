use Rattle.std.proofs.Common.{ℕ, suc, true, List, true≢false, refl, sym, ◌∙◌, subst}
use Rattle.board_rule.specs.OnBoard.{layout}
use Rattle.board_rule.specs.Known.{Known}
use Rattle.data_loop.specs.declared.loop_state.LoopState.{LoopState}
use Rattle.data_loop.specs.LoopWay.{IsDriverWay}
use Rattle.driver_cycle.specs.Leading.{IsBetween}
use Rattle.driver_cycle.specs.Courses.{HasMadeRound}
use Rattle.driver_cycle.specs.Epochs.{HasGoneOn}
use Rattle.driver_cycle.proofs.ThreadLemmas.{no_round, more_rounds}
use Rattle.driver_cycle.proofs.epoch.run_cycle.Goals.{in-None, in-Some+then-go_round}
use Rattle.driver_cycle.proofs.epoch.run_cycle.Goals as goal

pub loop-init : goal.loop-init
loop-init g c = record {
  can_next = tt;
  finite = tt;
  gone = no_round c.args.at.now.board.now c.args.seat.now c.args.own.now c.args.adopted.now (g.K.Ticker.ticks c.args.ticker.now) c.requires.thread;
  waits = c.requires.waits;
  cycle = refl;
  checked = sym c.requires.unchecked;
  rounds = (0, refl);
  way = c.requires.way;
}

pub loop-preserved : goal.loop-preserved
loop-preserved g c = let r = c.if-go_round.ensures.round in record {
  can_next = tt;
  finite = tt;
  gone = more_rounds c.args.at.now.board.now c.args.seat.now c.args.own.now c.args.adopted.now (g.K.Ticker.ticks c.args.ticker.now)
      c.loop.seat c.loop.own c.loop.adopted (g.K.Ticker.ticks c.loop.ticker) c.loop.invariant.gone
      c.go_round.new.seat c.go_round.new.own c.go_round.new.adopted (g.K.Ticker.ticks c.go_round.new.ticker) c.go_round.ensures.gone;
  waits = r.0;
  cycle = r.1 ∙ c.loop.invariant.cycle;
  checked = r.2;
  rounds = (
    suc c.loop.invariant.rounds.0,
    (
      record { seat = c.loop.seat; own = c.loop.own; adopted = c.loop.adopted; way = c.loop.way; ticker = c.loop.ticker },
      c.loop.invariant.rounds.1,
      c.if-go_round.ensures.made,
    ),
  );
  way = c.go_round.ensures.way;
}

pub returns-clause-gone : goal.returns-clause-gone
returns-clause-gone g c = elim c.match-next.branch [
  | in-None w ↦ absurd (true≢false (sym w.in-None.ensures.steps))
  | in-Some+then-go_round w ↦
      subst (λ (x : Known × LoopState × List LoopState × ℕ). HasGoneOn c.args.at.now.board.now c.args.seat.now c.args.own.now c.args.adopted.now
      (g.K.Ticker.ticks c.args.ticker.now) x.0 x.1 x.2 x.3)
      (λ i. (sym w.seat-is i, sym w.own-is i, sym w.adopted-is i, g.K.Ticker.ticks (sym w.ticker-is i)))
      (more_rounds c.args.at.now.board.now c.args.seat.now c.args.own.now c.args.adopted.now (g.K.Ticker.ticks c.args.ticker.now)
      c.loop.seat c.loop.own c.loop.adopted (g.K.Ticker.ticks c.loop.ticker) c.loop.invariant.gone
      w.go_round.new.seat w.go_round.new.own w.go_round.new.adopted (g.K.Ticker.ticks w.go_round.new.ticker) w.go_round.ensures.gone)
]

pub returns-clause-between : goal.returns-clause-between
returns-clause-between g c = elim c.match-next.branch [
  | in-None w ↦ absurd (true≢false (sym w.in-None.ensures.steps))
  | in-Some+then-go_round w ↦ subst (λ (x : Known). IsBetween (layout c.args.at.now.board.now) x.knows) (sym w.seat-is) w.if-go_round.ensures.round.0
]

pub returns-clause-way : goal.returns-clause-way
returns-clause-way g c = elim c.match-next.branch [
  | in-None w ↦ absurd (true≢false (sym w.in-None.ensures.steps))
  | in-Some+then-go_round w ↦ subst (IsDriverWay c.args.at.now.ways.now) (sym w.way'-is) w.go_round.ensures.way
]

pub returns-clause-rounds : goal.returns-clause-rounds
returns-clause-rounds g c = elim c.match-next.branch [
  | in-None w ↦ absurd (true≢false (sym w.in-None.ensures.steps))
  | in-Some+then-go_round w ↦ record {
    before = record { seat = c.loop.seat; own = c.loop.own; adopted = c.loop.adopted; way = c.loop.way; ticker = c.loop.ticker };
    rounds = c.loop.invariant.rounds;
    last = subst (HasMadeRound g.K.Ticker.ticks g.K.Ticker.answers (layout c.args.at.now.board.now) c.args.at.now.ways.now true
        record { seat = c.loop.seat; own = c.loop.own; adopted = c.loop.adopted; way = c.loop.way; ticker = c.loop.ticker })
        (λ i. record { seat = sym w.seat-is i; own = sym w.own-is i; adopted = sym w.adopted-is i; way = sym w.way'-is i; ticker = sym w.ticker-is i })
        w.if-go_round.ensures.made;
  }
]
