use Rattle.std.proofs.Common.{ℕ, List, ◌∙◌, map, sym, subst}
use Rattle.pw_lists.specs.Listed.{Listed}
use Rattle.board_rule.specs.Known.{Known}
use Rattle.data_loop.specs.declared.loop_state.LoopState.{LoopState}
use Rattle.graph_run.specs.Assignment.{loop_of}
use Rattle.graph_run.specs.Loops.{AreLoopsOf}
use Rattle.graph_run.specs.LoopsOnPlan.{AreReady}
use Rattle.graph_run.proofs.ReadyLemmas.{own_is, own_ready, own_has}
use Rattle.graph_run.proofs.SeatingLemmas.{loops_are, same_loops}
use Rattle.soak_tests.proofs.ThreadLemmas.{all_start}
use Rattle.soak_tests.proofs.taken.begin_run.Goals as goal

pub returns : goal.returns
returns c = let plan = c.args.work.now.plan in let waves = c.args.work.now.waves in let loops = c.args.loops in
    let all = c.in_ok-all.all in let made = c.in_ok-all.ensures in let w = c.in_ok-ways.ensures in
    let xs : List LoopState = c.pop.new.self in let own : LoopState = c.in-Some.own in
    let rows : List (List Known) = map (λ (r : Listed Known). r.list) all.seats.items in
    let whole = c.in-Some.ensures.list in
    let f = loop_of plan loops in let s = c.in_ok-seating.seating in let on = c.in_ok-seating.ensures.is in let many = loops_are f plan loops s on in
    let ready = subst (λ (x : ℕ × List LoopState). AreReady all.boards x.0 x.1) (λ j. (many j, whole j))
    (c.in_ok-states.ensures.ready all.boards made.shapes made.seats) in
    let are = subst (AreLoopsOf plan waves f rows) whole (same_loops f plan loops s on waves rows c.in_ok-states.states c.in_ok-states.ensures.of) in
    let is = own_is all.boards loops xs own ready plan waves f rows are in let pairs = c.in_ok-loops.ensures in record {
      loops = all_start plan waves loops all.boards c.in_ok-ways.ways xs own rows ready are w.owner w.loops c.in_ok-ways.others w.ways
          c.in_ok-loops.loops pairs.states pairs.ways;
      driver = record {
        ready = own_ready all.boards loops xs own ready;
        has = own_has all.boards loops xs own ready;
        leads = made.lead own.run_model is.plan_is is.waves_are;
        way = (w.driver.answered, w.driver.loop_is ∙ sym w.loops);
      };
    }
