use Rattle.std.proofs.Common.{◌||◌, Bool, refl, length, subst}
use Rattle.std.proofs.lemmas.Bool.{cases_lt}
use Rattle.board_rule.specs.OnBoard.{layout, table_of}
use Rattle.driver_cycle.specs.Asking.{IsAskedBy}
use Rattle.driver_cycle.proofs.CourseLemmas.{ends_way}
use Rattle.driver_cycle.proofs.RestLemmas.{ends_round}
use Rattle.driver_cycle.proofs.ThreadLemmas.{led_so_far_same, gone_round}
use Rattle.driver_cycle.proofs.epoch.go_round.Goals as goal

pub lead_once-ended-requires-clause-led_so_far : goal.lead_once-ended-requires-clause-led_so_far
lead_once-ended-requires-clause-led_so_far g c = let v = c.args.seat.now.knows in
    led_so_far_same (layout c.args.at.now.board.now) (table_of c.args.at.now.board.now) c.args.own.now c.turn_one-own_ran.new.state v v c.requires.thread.stands
    c.turn_one-own_ran.ensures.turned refl c.requires.thread.led_so_far

pub returns-clause-gone : goal.returns-clause-gone
returns-clause-gone g c = let e = c.lead_once-ended.ensures in
    gone_round c.args.at.now.board.now c.args.seat.now c.lead_once-ended.new.seat c.args.own.now c.turn_one-own_ran.new.state c.lead_once-ended.new.own c.args.adopted.now
    c.turn_all-another_ran.new.states (g.K.Ticker.ticks c.args.ticker.now) (g.K.Ticker.ticks c.lead_once-ended.new.ticker) c.requires.thread
    c.turn_one-own_ran.ensures.turned c.turn_all-another_ran.ensures.turned e.leads e.stands e.same e.led_so_far e.looked

pub returns-clause-rest : goal.returns-clause-rest
returns-clause-rest g c = let all = c.turn_all-another_ran.ensures in let e = c.rest_unless.ensures in
    ends_round (layout c.args.at.now.board.now) c.args.at.now.ways.now c.args.own.now c.turn_one-own_ran.new.state c.args.adopted.now
    c.turn_all-another_ran.new.states c.args.way.now c.turn_one-own_ran.new.way c.turn_all-another_ran.new.way c.rest_unless.new.way
    c.turn_one-own_ran.result c.turn_all-another_ran.result c.lead_once-ended.result c.turn_one-own_ran.ensures.took all.ran all.idle all.quiet all.still
    e.rested e.done e.alone

pub returns-clause-made : goal.returns-clause-made
returns-clause-made g c = let all = c.turn_all-another_ran.ensures in let e = c.rest_unless.ensures in record {
  own_ran = c.turn_one-own_ran.result;
  turned = c.turn_one-own_ran.new.state;
  sent = c.turn_one-own_ran.new.way;
  own = c.turn_one-own_ran.ensures.took;
  after = c.turn_all-another_ran.new.way;
  adopted = all.took;
  claimed = c.lead_once-ended.ensures.claimed;
  asked = subst (λ (x : Bool). IsAskedBy g.K.Ticker.answers c.lead_once-ended.result x c.args.ticker.now c.lead_once-ended.new.ticker)
      c.requires.checked c.lead_once-ended.ensures.asked;
  driving = c.lead_once-ended.ensures.driving;
  rest = ends_round (layout c.args.at.now.board.now) c.args.at.now.ways.now c.args.own.now c.turn_one-own_ran.new.state c.args.adopted.now
      c.turn_all-another_ran.new.states c.args.way.now c.turn_one-own_ran.new.way c.turn_all-another_ran.new.way c.rest_unless.new.way
      c.turn_one-own_ran.result c.turn_all-another_ran.result c.lead_once-ended.result c.turn_one-own_ran.ensures.took all.ran all.idle all.quiet all.still
      e.rested e.done e.alone;
  last = ends_way (length c.turn_all-another_ran.new.states) c.args.at.now.ways.now.loops c.turn_all-another_ran.new.way c.rest_unless.new.way
      ((c.turn_one-own_ran.result || c.turn_all-another_ran.result) || c.lead_once-ended.result) e.rested e.done e.alone
      (cases_lt (length c.turn_all-another_ran.new.states) c.args.at.now.ways.now.loops);
}
