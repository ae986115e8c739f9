use Rattle.std.proofs.Common.{[], sym, ◌∙◌}
use Rattle.board_rule.specs.OnBoard.{layout, table_of}
use Rattle.driver_cycle.specs.Epochs.{IsThread}
use Rattle.driver_cycle.specs.Leading.{IsLeading}
use Rattle.driver_cycle.proofs.SettlingLemmas.{same_but_on}
use Rattle.driver_cycle.proofs.ThreadLemmas.{led_all, same_expect, leads_back}
use Rattle.graph_run.proofs.EpochLemmas.{passes}
use Rattle.steal_loops.proofs.epoch.run_epoch.Goals as goal

pub next_epoch-requires : goal.next_epoch-requires
next_epoch-requires g c = let b = c.args.at.now.board.now in let p = layout b in let mid = c.run_cycles.new.own in let u = c.run_cycles.new.seat in
    let thread : IsThread b u mid [] = c.run_cycles.ensures.gone.thread in record {
      ended = (p, table_of b, c.settle.ensures.settled.end (led_all p mid u.knows thread.led_so_far c.run_cycles.ensures.ended.1));
    }

pub returns : goal.returns
returns g c = let b = c.args.at.now.board.now in let s = c.args.seat.now in let u = c.run_cycles.new.seat in
    let own = c.args.own.now in let mid = c.run_cycles.new.own in let end = c.settle.new.state in
    let gone = c.run_cycles.ensures.gone in let t = c.requires.thread in
    let leads : IsLeading own.run_model own.epoch b u = leads_back b u own mid gone.same gone.thread.leads in record {
      led = record {
        ended = c.run_cycles.ensures.ended;
        table = leads.table ∙ sym t.leads.table;
        expect = same_expect own.run_model own.epoch b s u t.leads leads;
      };
      own = passes own end c.next_epoch.new.self (same_but_on own mid end gone.same c.settle.ensures.settled.turned.same) record {
        between = c.next_epoch.ensures.between;
        next = c.next_epoch.ensures.next;
        same = c.next_epoch.ensures.same;
      };
      looked = gone.looked;
      scan = c.run_cycles.ensures.scan;
    }
