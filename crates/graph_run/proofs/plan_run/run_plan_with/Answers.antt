use Rattle.std.proofs.Common.{◌∙◌, arith}
use denote.Param.Send.{sendable}
use Rattle.graph_run.specs.Assignment.{loop_of}
use Rattle.graph_run.proofs.PlanRunLemmas.{can_lead, done_of, shapes_are, have_ended, expects, no_checks}
use Rattle.graph_run.proofs.RunStatesLemmas.{run_looked}
use Rattle.graph_run.proofs.SendLemmas.{loop_send, given_send, shared_sync}
use Rattle.graph_run.proofs.plan_run.run_plan_with.Goals as goal

pub run-done-requires-send-M : goal.run-done-requires-send-M
run-done-requires-send-M g c κs within = search (sendable, given_send) depth 30

pub run-done-requires-send-B : goal.run-done-requires-send-B
run-done-requires-send-B g c κs within = search (sendable, loop_send) depth 30

pub run-done-requires-sync-C : goal.run-done-requires-sync-C
run-done-requires-sync-C g c κs within = search (sendable, shared_sync) depth 30

pub run-done-requires-clause-leads : goal.run-done-requires-clause-leads
run-done-requires-clause-leads g c κs within = let more = c.in_ok-done.ensures.spare in
    can_lead c.args.plan.now c.args.waves.now c.args.roster.now.loops c.in_ok-shared.field-0 c.in_ok-shared.ensures
    c.in_ok-adopted.adopted c.in_ok-done.done (c.in_ok-adopted.ensures.list ∙ c.new.ensures) (c.in_ok-done.ensures.list ∙ c.new-2.ensures)
    c.in_ok-adopted.ensures.spare
    (omega (arith, more))

pub finish_run-requires-clause-ended : goal.finish_run-requires-clause-ended
finish_run-requires-clause-ended g c = let p = c.in_ok-shared.field-0 in let is = c.in_ok-shared.ensures in
    let plan = c.args.plan.now in let waves = c.args.waves.now in let loops = c.args.roster.now.loops in let drivers = c.run-done.result.drivers in
    let shapes = shapes_are plan (loop_of plan loops) loops p.shared.boards is.shapes in record {
      shapes = shapes;
      done = done_of plan waves loops p is c.run-done.result.done c.run-done.ensures.done;
      ended = have_ended plan waves loops p.shared.boards shapes p.driving.drivers drivers is.drivers c.run-done.ensures.drivers;
      expects = expects plan waves loops p.shared.boards shapes p.driving.drivers drivers is.drivers c.run-done.ensures.drivers;
      rooms = c.in_ok-rooms.ensures;
    }

pub returns-clause-run : goal.returns-clause-run
returns-clause-run g c = let p = c.in_ok-shared.field-0 in let is = c.in_ok-shared.ensures in
    let plan = c.args.plan.now in let waves = c.args.waves.now in let loops = c.args.roster.now.loops in let drivers = c.run-done.result.drivers in
    run_looked plan waves (loop_of plan loops) loops c.finish_run.result.0.history c.finish_run.result.1 p.driving.drivers drivers
    (g.K.Ticker.ticks c.args.ticker.now) (g.K.Ticker.ticks c.run-done.new.ticker)
    (no_checks plan waves loops p.shared.boards p.driving.drivers is.drivers) c.run-done.ensures.looked (c.finish_run.ensures.run (loop_of plan loops) loops is.shapes)
