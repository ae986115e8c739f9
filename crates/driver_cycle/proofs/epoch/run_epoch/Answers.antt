use Rattle.std.proofs.Common.{refl, sym, ◌∙◌}
use Rattle.board_rule.specs.OnBoard.{layout, table_of}
use Rattle.driver_cycle.specs.Epochs.{IsThread, HasGoneOn}
use Rattle.driver_cycle.specs.Leading.{IsLeading}
use Rattle.driver_cycle.proofs.SettlingLemmas.{same_but_on}
use Rattle.driver_cycle.proofs.ThreadLemmas.{led_all, each_settled, same_expect, leads_back}
use Rattle.driver_cycle.proofs.epoch.run_epoch.Goals as goal

pub returns : goal.returns
returns g c = let b = c.args.board.now in let p = layout b in let t = table_of b in
    let s = c.args.seat.now in let u = c.run_cycles.new.seat in let own = c.args.own.now in let mid = c.run_cycles.new.own in
    let gone : HasGoneOn b s own c.args.adopted.now (g.K.Ticker.ticks c.args.ticker.now) u mid c.run_cycles.new.adopted
    (g.K.Ticker.ticks c.run_cycles.new.ticker) = c.run_cycles.ensures.gone in
    let thread : IsThread b u mid c.run_cycles.new.adopted = gone.thread in
    let leads : IsLeading own.run_model own.epoch b u = leads_back b u own mid gone.same thread.leads in
    let settled = c.settle.ensures.settled in record {
      ended = c.run_cycles.ensures.ended;
      leads = leads;
      table = leads.table ∙ sym c.requires.leads.table;
      expect = same_expect own.run_model own.epoch b s u c.requires.leads leads;
      end = settled.end (led_all p mid u.knows thread.led_so_far c.run_cycles.ensures.ended.1);
      same = same_but_on own mid c.settle.new.state gone.same settled.turned.same;
      adopted = each_settled p t c.args.adopted.now c.run_cycles.new.adopted c.settle_all.new.states c.requires.adopted gone.turned
          c.settle_all.ensures.settled;
      looked = gone.looked;
      made = record {
        last = record { seat = u; own = mid; adopted = c.run_cycles.new.adopted; way = c.run_cycles.new.way; ticker = c.run_cycles.new.ticker };
        cycles = c.run_cycles.ensures.cycles;
        seat = refl;
        own = settled;
        adopted = c.settle_all.ensures.settled;
        way = refl;
        ticker = refl;
      };
      way = c.run_cycles.ensures.way;
    }
