use Rattle.std.proofs.Common.{[], refl, ◌∙◌}
use Rattle.board_rule.specs.OnBoard.{layout, table_of}
use Rattle.driver_cycle.proofs.ThreadLemmas.{drives_same, led_so_far_same, gone_round, each_none}
use Rattle.steal_loops.proofs.ClaimantLemmas.{again}
use Rattle.steal_loops.proofs.epoch.go_round.Goals as goal

pub visit_ready-cell_ran-requires-clause-claimant : goal.visit_ready-cell_ran-requires-clause-claimant
visit_ready-cell_ran-requires-clause-claimant g c = let h = c.requires.scan.0 in
    again c.args.at.now.shared.now c.args.scan.now.claimant _ h refl c.turn_one-own_ran.ensures.way.0 refl

pub lead_once-ended-requires-clause-led_so_far : goal.lead_once-ended-requires-clause-led_so_far
lead_once-ended-requires-clause-led_so_far g c = let v = c.args.seat.now.knows in
    led_so_far_same (layout c.args.at.now.board.now) (table_of c.args.at.now.board.now) c.args.own.now c.turn_one-own_ran.new.state v v c.requires.thread.stands
    c.turn_one-own_ran.ensures.turned refl c.requires.thread.led_so_far

pub lead_once-ended-requires-clause-driver : goal.lead_once-ended-requires-clause-driver
lead_once-ended-requires-clause-driver g c = drives_same (layout c.args.at.now.board.now) c.args.own.now c.turn_one-own_ran.new.state
    c.turn_one-own_ran.ensures.turned.same c.requires.thread.driver

pub end_round-requires-clause-scan : goal.end_round-requires-clause-scan
end_round-requires-clause-scan g c = let v = c.visit_ready-cell_ran.ensures in (v.claimant, v.number ∙ c.turn_one-own_ran.ensures.way.1)

pub returns-clause-gone : goal.returns-clause-gone
returns-clause-gone g c = let e = c.lead_once-ended.ensures in let b = c.args.at.now.board.now in
    gone_round b c.args.seat.now c.lead_once-ended.new.seat c.args.own.now c.turn_one-own_ran.new.state c.lead_once-ended.new.own []
    [] (g.K.Ticker.ticks c.args.ticker.now) (g.K.Ticker.ticks c.lead_once-ended.new.ticker) c.requires.thread
    c.turn_one-own_ran.ensures.turned (each_none (layout b) (table_of b) [] c.requires.thread.adopted_stand) e.leads e.stands e.same e.led_so_far e.looked
