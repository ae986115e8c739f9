use Rattle.std.proofs.Common.{◌∙◌, List, sym, ap, subst}
use Rattle.std.specs.Prelude.{All}
use Rattle.data_loop.specs.declared.loop_state.LoopState.{LoopState}
use Rattle.node_progress.specs.declared.run_model.RunModel.{RunModel}
use Rattle.graph_run.specs.LoopsOnPlan.{IsReady, HasNoDriver, AreReady, AreFirstLeads}
use Rattle.graph_run.specs.Loops.{AreLoopsOf}
use Rattle.graph_run.specs.Seating.{holder_of}
use Rattle.graph_run.proofs.ReadyLemmas.{own_ready, own_has, others_ready, others_none, own_is}
use Rattle.loop_tests.proofs.alone.keeps_by.Goals as goal

pub run_open-requires-clause-own : goal.run_open-requires-clause-own
run_open-requires-clause-own g c = let s = c.in-Ok.seating in let boards = c.in-Ok-boards_of.all.boards in let xs : List LoopState = c.pop.new.self in let own : LoopState = c.in-Some.own in
    let ready = subst (AreReady boards s.loops) c.in-Some.ensures.list
    (c.in-Ok-loops_of.ensures.ready boards c.in-Ok-boards_of.ensures.shapes c.in-Ok-boards_of.ensures.seats) in
    own_ready boards s.loops xs own ready

pub run_open-requires-clause-has : goal.run_open-requires-clause-has
run_open-requires-clause-has g c = let s = c.in-Ok.seating in let boards = c.in-Ok-boards_of.all.boards in let xs : List LoopState = c.pop.new.self in let own : LoopState = c.in-Some.own in
    let ready = subst (AreReady boards s.loops) c.in-Some.ensures.list
    (c.in-Ok-loops_of.ensures.ready boards c.in-Ok-boards_of.ensures.shapes c.in-Ok-boards_of.ensures.seats) in
    own_has boards s.loops xs own ready

pub run_open-requires-clause-adopted : goal.run_open-requires-clause-adopted
run_open-requires-clause-adopted g c = let s = c.in-Ok.seating in let boards = c.in-Ok-boards_of.all.boards in let xs : List LoopState = c.pop.new.self in let own : LoopState = c.in-Some.own in
    let ready = subst (AreReady boards s.loops) c.in-Some.ensures.list
    (c.in-Ok-loops_of.ensures.ready boards c.in-Ok-boards_of.ensures.shapes c.in-Ok-boards_of.ensures.seats) in
    subst (All (IsReady boards)) (sym c.as_mut_slice-2.ensures.value) (others_ready boards s.loops xs own ready)

pub run_open-requires-clause-none : goal.run_open-requires-clause-none
run_open-requires-clause-none g c = let s = c.in-Ok.seating in let boards = c.in-Ok-boards_of.all.boards in let xs : List LoopState = c.pop.new.self in let own : LoopState = c.in-Some.own in
    let ready = subst (AreReady boards s.loops) c.in-Some.ensures.list
    (c.in-Ok-loops_of.ensures.ready boards c.in-Ok-boards_of.ensures.shapes c.in-Ok-boards_of.ensures.seats) in
    subst (All HasNoDriver) (sym c.as_mut_slice-2.ensures.value) (others_none boards s.loops xs own ready)

pub run_open-requires-clause-drivers : goal.run_open-requires-clause-drivers
run_open-requires-clause-drivers g c = let s = c.in-Ok.seating in let boards = c.in-Ok-boards_of.all.boards in let xs : List LoopState = c.pop.new.self in let own : LoopState = c.in-Some.own in
    let ready = subst (AreReady boards s.loops) c.in-Some.ensures.list
    (c.in-Ok-loops_of.ensures.ready boards c.in-Ok-boards_of.ensures.shapes c.in-Ok-boards_of.ensures.seats) in
    let is = own_is boards s.loops xs own ready c.args.work.now.plan _ (holder_of s) _
    (subst (AreLoopsOf c.args.work.now.plan _ (holder_of s) _) c.in-Some.ensures.list c.in-Ok-loops_of.ensures.of) in
    subst (AreFirstLeads own.run_model boards) (sym c.as_mut_slice.ensures.value) (c.in-Ok-boards_of.ensures.lead own.run_model is.plan_is is.waves_are)

pub has_kept-requires-clause-plan_is : goal.has_kept-requires-clause-plan_is
has_kept-requires-clause-plan_is g c = let s = c.in-Ok.seating in let boards = c.in-Ok-boards_of.all.boards in let xs : List LoopState = c.pop.new.self in let own : LoopState = c.in-Some.own in
    let ready = subst (AreReady boards s.loops) c.in-Some.ensures.list
    (c.in-Ok-loops_of.ensures.ready boards c.in-Ok-boards_of.ensures.shapes c.in-Ok-boards_of.ensures.seats) in
    let is = own_is boards s.loops xs own ready c.args.work.now.plan _ (holder_of s) _
    (subst (AreLoopsOf c.args.work.now.plan _ (holder_of s) _) c.in-Some.ensures.list c.in-Ok-loops_of.ensures.of) in
    ap (λ (s : RunModel). s.plan.value) c.run_open.ensures.own.run_model ∙ is.plan_is

pub has_kept-requires-clause-nodes_are : goal.has_kept-requires-clause-nodes_are
has_kept-requires-clause-nodes_are g c = let s = c.in-Ok.seating in let boards = c.in-Ok-boards_of.all.boards in let xs : List LoopState = c.pop.new.self in let own : LoopState = c.in-Some.own in
    let ready = subst (AreReady boards s.loops) c.in-Some.ensures.list
    (c.in-Ok-loops_of.ensures.ready boards c.in-Ok-boards_of.ensures.shapes c.in-Ok-boards_of.ensures.seats) in
    let is = own_is boards s.loops xs own ready c.args.work.now.plan _ (holder_of s) _
    (subst (AreLoopsOf c.args.work.now.plan _ (holder_of s) _) c.in-Some.ensures.list c.in-Ok-loops_of.ensures.of) in
    c.run_open.ensures.own.nodes ∙ is.nodes_are
