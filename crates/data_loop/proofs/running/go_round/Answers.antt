use Rattle.std.proofs.Common.{[], ◌∷◌, true≢false, sym, subst}
use Rattle.board_rule.specs.OnBoard.{layout, table_of}
use Rattle.ready_queues.specs.declared.way.Way.{Way}
use Rattle.ready_queues.specs.Starting.{IsStarted}
use Rattle.data_loop.specs.declared.loop_state.LoopState.{LoopState}
use Rattle.data_loop.specs.LoopWay.{IsWayFor}
use Rattle.data_loop.specs.Settling.{HasSettled}
use Rattle.data_loop.specs.Rounds.{HasMadeRounds}
use Rattle.data_loop.proofs.SettlingLemmas.{no_turns, more_turns, settled_after}
use Rattle.data_loop.proofs.running.go_round.Goals.{in-None, in-Some+then-go_once}
use Rattle.data_loop.proofs.running.go_round.Goals as goal

pub loop-init : goal.loop-init
loop-init g c = record {
  can_next = tt;
  finite = tt;
  turned = no_turns (layout c.args.board.now) (table_of c.args.board.now) c.args.state.now c.requires.stands;
  rounds = λ t b gone. gone;
  way = c.requires.way;
  started = c.requires.started;
}

pub loop-preserved : goal.loop-preserved
loop-preserved g c = record {
  can_next = tt;
  finite = tt;
  turned = more_turns (layout c.args.board.now) (table_of c.args.board.now) c.args.state.now c.loop.state c.go_once.new.state c.loop.invariant.turned
      c.go_once.ensures.turned;
  rounds = λ t b gone. c.loop.invariant.rounds t b ((c.go_once.new.state, c.go_once.new.way) ∷ gone.0, (c.if-go_once.ensures.round, gone.1));
  way = c.go_once.ensures.way;
  started = c.go_once.ensures.started;
}

pub returns-clause-settled : goal.returns-clause-settled
returns-clause-settled g c = let p = layout c.args.board.now in let t = table_of c.args.board.now in
    elim c.match-next.branch [
      | in-None w ↦ absurd (true≢false (sym w.in-None.ensures.steps))
      | in-Some+then-go_once w ↦ subst (HasSettled p t c.args.state.now) (sym w.state-is)
          (settled_after p t c.args.state.now c.loop.state w.go_once.new.state c.requires.stands c.loop.invariant.turned
          (w.go_once.ensures.settled w.if-go_once.true))
    ]

pub returns-clause-way : goal.returns-clause-way
returns-clause-way g c = elim c.match-next.branch [
  | in-None w ↦ absurd (true≢false (sym w.in-None.ensures.steps))
  | in-Some+then-go_once w ↦ subst (λ (x : LoopState × Way). IsWayFor c.args.ways.now x.0 x.1) (λ i. (sym w.state-is i, sym w.way'-is i))
      w.go_once.ensures.way
]

pub returns-clause-started : goal.returns-clause-started
returns-clause-started g c = elim c.match-next.branch [
  | in-None w ↦ absurd (true≢false (sym w.in-None.ensures.steps))
  | in-Some+then-go_once w ↦ subst IsStarted (sym w.way'-is) w.go_once.ensures.started
]

pub returns-clause-rounds : goal.returns-clause-rounds
returns-clause-rounds g c = elim c.match-next.branch [
  | in-None w ↦ absurd (true≢false (sym w.in-None.ensures.steps))
  | in-Some+then-go_once w ↦
      subst (λ (x : LoopState × Way). HasMadeRounds (layout c.args.board.now) c.args.ways.now c.args.state.now c.args.way.now x.0 x.1)
      (λ i. (sym w.state-is i, sym w.way'-is i))
      (c.loop.invariant.rounds w.go_once.new.state w.go_once.new.way ([], w.if-go_once.ensures.round))
]
