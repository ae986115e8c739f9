use Rattle.std.proofs.Common.{◌≡◌, ◌+◌, ◌<◌, Bool, false, length, get_or, set, sym, ◌∙◌, subst, arith}
use Rattle.std.proofs.lemmas.List.{get_or_default}
use Rattle.board_rule.specs.OnBoard.{layout, table_of}
use Rattle.data_loop.specs.declared.loop_state.LoopState.{LoopState}
use Rattle.data_loop.specs.LoopsOnBoards.{IsOnBoard}
use Rattle.driver_cycle.specs.Settling.{HasHadTurns}
use Rattle.driver_cycle.specs.Waking.{HasTakenTurn, HasTurnedIdle}
use Rattle.driver_cycle.proofs.SettlingLemmas.{one_more, all_below}
use Rattle.driver_cycle.specs.working.Resting.{HasTurnedRan}
use Rattle.driver_cycle.proofs.ThreadLemmas.{neither}
use Rattle.driver_cycle.proofs.CourseLemmas.{taken_on, taken_to}
use Rattle.driver_cycle.proofs.RestLemmas.{HasOneRanBelow, turn_still, turn_ran, either, kept_ran, new_ran, one_ran}
use Rattle.driver_cycle.proofs.turning.turn_all.Goals as goal

pub turn_one-ran-requires-clause-stands : goal.turn_one-ran-requires-clause-stands
turn_one-ran-requires-clause-stands g c = let p = layout c.args.at.now.board.now in let t = table_of c.args.at.now.board.now in
    let low = c.loop-k-test.true in let h = c.loop-k.invariant.turned in let n = h.count in let end = c.loop-k.invariant.end in
    subst (IsOnBoard p t) (sym (h.left c.loop-k.k c.index-states-k.result (omega arith)))
    (c.requires.stand c.loop-k.k c.index-states-k.result (omega (arith, low, end)))

pub loop-k-preserved : goal.loop-k-preserved
loop-k-preserved g c = let p = layout c.args.at.now.board.now in let t = table_of c.args.at.now.board.now in
    let low = c.loop-k-test.true in let h = c.loop-k.invariant.turned in let n = h.count in let k = c.loop-k.k in
    let end = c.loop-k.invariant.end in let now = c.turn_one-ran.new.state in
    let inside : k < length c.loop-k.states = omega (arith, low, n, end) in
    let here = get_or c.loop-k.states k c.index-states-k.result in
    let was : (d : LoopState) → here ≡ get_or c.args.states.now k d =
    λ d. get_or_default c.loop-k.states k c.index-states-k.result d inside ∙ h.left k d (omega arith) in
    let idle : c.turn_one-ran.result ≡ false → HasTakenTurn false p c.args.at.now.ways.now here c.loop-k.way now c.turn_one-ran.new.way =
    λ e. subst (λ (b : Bool). HasTakenTurn b p c.args.at.now.ways.now here c.loop-k.way now c.turn_one-ran.new.way) e
    c.turn_one-ran.ensures.took in record {
      end = end;
      turned = one_more (HasHadTurns p t) c.args.states.now k c.loop-k.states now inside h
          (λ d. subst (λ (x : LoopState). HasHadTurns p t x now) (was d) c.turn_one-ran.ensures.turned);
      idle = λ e. let none = neither c.loop-k.ran c.turn_one-ran.result e in
          one_more (HasTurnedIdle p) c.args.states.now k c.loop-k.states now inside (c.loop-k.invariant.idle none.0)
          (λ d. subst (λ (x : LoopState). HasTurnedIdle p x now) (was d) (idle none.1).0);
      ran = λ e. either c.loop-k.ran c.turn_one-ran.result (HasOneRanBelow p (k + 1) c.args.states.now (set c.loop-k.states k now)) e
          (λ earlier. kept_ran p k c.args.states.now c.loop-k.states now (c.loop-k.invariant.ran earlier))
          (λ here_ran. new_ran p k c.args.states.now c.loop-k.states now inside (omega (arith, low, end))
          (λ d. subst (λ (x : LoopState). HasTurnedRan p x now) (was d)
          (turn_ran p c.args.at.now.ways.now here c.loop-k.way now c.turn_one-ran.new.way c.turn_one-ran.result here_ran c.turn_one-ran.ensures.took)));
      quiet = λ e. let none = neither c.loop-k.ran c.turn_one-ran.result e in (idle none.1).2 ∙ c.loop-k.invariant.quiet none.0;
      took = taken_on p c.args.at.now.ways.now c.args.states.now c.loop-k.states now c.args.way.now c.loop-k.way c.turn_one-ran.new.way k
          c.turn_one-ran.result inside c.loop-k.invariant.took
          (λ d. subst (λ (x : LoopState). HasTakenTurn c.turn_one-ran.result p c.args.at.now.ways.now x c.loop-k.way now c.turn_one-ran.new.way) (was d)
          c.turn_one-ran.ensures.took);
      still = turn_still p c.args.at.now.ways.now here c.loop-k.way now c.turn_one-ran.new.way c.turn_one-ran.result c.turn_one-ran.ensures.took
          ∙ c.loop-k.invariant.still;
      way = c.turn_one-ran.ensures.way;
    }

pub returns-clause-idle : goal.returns-clause-idle
returns-clause-idle g c = let past = c.loop-k-test.false in let end = c.loop-k.invariant.end in let n = c.loop-k.invariant.turned.count in
    λ e. all_below (HasTurnedIdle (layout c.args.at.now.board.now)) c.args.states.now c.loop-k.k c.loop-k.states (omega (arith, past, end, n))
    (c.loop-k.invariant.idle e)

pub returns-clause-ran : goal.returns-clause-ran
returns-clause-ran g c = λ e. one_ran (layout c.args.at.now.board.now) c.loop-k.k c.args.states.now c.loop-k.states (c.loop-k.invariant.ran e)

pub returns-clause-took : goal.returns-clause-took
returns-clause-took g c = let past = c.loop-k-test.false in let end = c.loop-k.invariant.end in let low = c.loop-k.auto in
    taken_to (layout c.args.at.now.board.now) c.args.at.now.ways.now c.args.states.now c.loop-k.states c.args.way.now c.loop-k.way c.loop-k.k
    (length c.args.states.now) (omega arith) c.loop-k.invariant.took
