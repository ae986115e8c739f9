use denote.Param.Send.{sendable}
use Rattle.std.proofs.Common.{◌∙◌, ◌+◌, ◌≤◌, ℕ, sym, ap, subst, map}
use Rattle.board_rule.specs.declared.board.Board.{Board}
use Rattle.graph_run.specs.declared.ended.EndedRun.{EndedRun}
use Rattle.graph_run.specs.Assignment.{cell_number, cell_count}
use Rattle.graph_run.specs.Leads.{checks_of}
use Rattle.graph_run.specs.PlanRun.{IsRunOf}
use Rattle.graph_run.specs.RunStates.{IsEndedRun}
use Rattle.graph_run.proofs.PlanRunLemmas.{shapes_are, have_ended, expects, no_checks}
use Rattle.graph_run.proofs.RunStatesLemmas.{run_looked}
use Rattle.steal_loops.proofs.DoneLemmas.{can_start, can_lead, done_of}
use Rattle.steal_loops.proofs.SendLemmas.{claimant_send, shared_sync}
use Rattle.steal_loops.proofs.stealing_run.run_stealing_counted.Goals as goal

pub run-done-requires-send-M : goal.run-done-requires-send-M
run-done-requires-send-M g c κs within = search (sendable, claimant_send) depth 30

pub run-done-requires-send-B : goal.run-done-requires-send-B
run-done-requires-send-B g c κs within = search (sendable, claimant_send) depth 30

pub run-done-requires-sync-C : goal.run-done-requires-sync-C
run-done-requires-sync-C g c κs within = search (sendable, shared_sync) depth 30

pub run-done-requires-clause-leads : goal.run-done-requires-clause-leads
run-done-requires-clause-leads g c κs within = let p = c.in_ok-shared.field-0 in let is = c.in_ok-shared.ensures in
    can_lead c.args.plan.now c.args.waves.now c.args.roster.now.loops p is c.in_ok-done.done (c.in_ok-done.ensures.list ∙ c.new.ensures)
    (subst (λ (k : ℕ). k + 1 ≤ c.in_ok-done.done.spare) c.loops.ensures c.in_ok-done.ensures.spare)

pub run-done-requires-clause-members : goal.run-done-requires-clause-members
run-done-requires-clause-members g c κs within = can_start c.args.plan.now c.args.waves.now c.args.roster.now.loops c.in_ok-shared.field-0 c.in_ok-shared.ensures

pub finish_run-outcome-requires-clause-ended : goal.finish_run-outcome-requires-clause-ended
finish_run-outcome-requires-clause-ended g c = let p = c.in_ok-shared.field-0 in let is = c.in_ok-shared.ensures in
    let plan = c.args.plan.now in let waves = c.args.waves.now in let n = cell_count plan in let drivers = c.run-done.result.drivers in
    let led = c.run-done.ensures.drivers in
    let shapes = shapes_are plan (cell_number plan) n p.shared.boards is.shapes in subst (IsEndedRun plan waves) (sym c.new-ended.ensures) record {
      shapes = shapes;
      done = done_of plan waves c.args.roster.now.loops p is c.run-done.result.done c.run-done.ensures.done;
      ended = have_ended plan waves n p.shared.boards shapes p.driving.drivers drivers is.drivers led;
      expects = expects plan waves n p.shared.boards shapes p.driving.drivers drivers is.drivers led;
      rooms = c.in_ok-rooms.ensures;
    }

pub returns-clause-run : goal.returns-clause-run
returns-clause-run g c = let p = c.in_ok-shared.field-0 in let is = c.in_ok-shared.ensures in
    let plan = c.args.plan.now in let waves = c.args.waves.now in let f = cell_number plan in let n = cell_count plan in
    let drivers = c.run-done.result.drivers in let r = c.finish_run-outcome.result in
    run_looked plan waves f n r.0.history r.1 p.driving.drivers drivers
    (g.K.Ticker.ticks c.args.ticker.now) (g.K.Ticker.ticks c.run-done.new.ticker)
    (no_checks plan waves n p.shared.boards p.driving.drivers is.drivers) c.run-done.ensures.looked
    (subst (λ (e : EndedRun). IsRunOf plan waves f n r.0.history r.1 0 (checks_of e.drivers)) c.new-ended.ensures
    (c.finish_run-outcome.ensures.run f n (ap (λ (e : EndedRun). map (λ (b : Board). b.board_shape) e.boards) c.new-ended.ensures ∙ is.shapes)))
