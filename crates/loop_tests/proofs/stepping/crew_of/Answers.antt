use Rattle.std.proofs.Common.{List, refl, subst, arith}
use Rattle.data_loop.specs.declared.loop_state.LoopState.{LoopState}
use Rattle.graph_run.specs.Loops.{AreLoopsOf}
use Rattle.graph_run.specs.LoopsOnPlan.{AreReady}
use Rattle.graph_run.specs.Seating.{holder_of}
use Rattle.graph_run.proofs.ReadyLemmas.{own_is}
use Rattle.loop_tests.proofs.CrewLemmas.{first_crew}
use Rattle.loop_tests.proofs.stepping.crew_of.Goals as goal

pub returns : goal.returns
returns c = let s = c.in-Ok.seating in let all = c.in-Ok-boards_of.all in let boards = all.boards in let xs : List LoopState = c.pop-3.new.self in
    let own : LoopState = c.in-Some-pop-2.own in let whole = c.in-Some-pop-2.ensures.list in
    let ready = subst (AreReady boards s.loops) whole
    (c.in-Ok-loops_of.ensures.ready boards c.in-Ok-boards_of.ensures.shapes c.in-Ok-boards_of.ensures.seats) in
    let is = own_is boards s.loops xs own ready c.args.work.now.plan _ (holder_of s) _
    (subst (AreLoopsOf c.args.work.now.plan _ (holder_of s) _) whole c.in-Ok-loops_of.ensures.of) in
    let n = c.if-len-ne1.false in let m = c.len.ensures in
    first_crew boards c.pop.new.self c.in-Some.board c.in-Some.ensures.list (omega (arith, m, n)) all.drivers c.pop-2.new.self c.in-Some-pop.seat
    c.in-Some-pop.ensures.list s.loops xs own ready (c.in-Ok-boards_of.ensures.lead own.run_model is.plan_is is.waves_are) _ refl refl
    c.into_vec.ensures refl refl
