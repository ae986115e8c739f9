use Rattle.std.proofs.Common.{◌≡◌, ◌<◌, ◌∙◌, List, Some, length, get_or, slice_get, sym, ap, subst, arith}
use Rattle.std.specs.Prelude.{All}
use Rattle.std.proofs.lemmas.List.{get_or_default}
use Rattle.std.proofs.lemmas.Option.{slice_get-get_or}
use Rattle.board_rule.specs.declared.board.Board.{Board}
use Rattle.board_rule.specs.Known.{Known}
use Rattle.board_rule.specs.OnBoard.{layout, table_of}
use Rattle.driver_cycle.specs.Epochs.{IsThread}
use Rattle.driver_cycle.specs.Settling as settling
use Rattle.graph_run.specs.Leads.{HasLedAll}
use Rattle.graph_run.specs.LoopsOnPlan.{IsFirstLead}
use Rattle.graph_run.proofs.EpochLemmas.{comes_on, thread_begins, all_led, each_on, led_more, looked_more, passes, each_passes, all_at_end}
use Rattle.graph_run.proofs.epochs.run_epochs.Goals as goal

pub run_epoch-requires : goal.run_epoch-requires
run_epoch-requires g c = let i = c.loop-k.invariant in let k = c.loop-k.k in let low = c.loop-k-test.true in let end = i.end in
    let bs = c.args.course.now.boards.now in let b : Board = c.index-as_slice-k.result in
    let here : slice_get bs k ≡ Some b = slice_get-get_or bs k b (omega (arith, low, end))
    ∙ ap Some (sym (c.index-as_slice-k.is ∙ ap (λ (l : List Board). get_or l k b) c.as_slice.ensures)) in
    let seat : Known = get_or c.loop-k.drivers k c.index-drivers-k.result in
    let lead : IsFirstLead c.args.own.now.run_model k b seat =
    subst (IsFirstLead c.args.own.now.run_model k b) (sym (i.led.left k c.index-drivers-k.result (omega arith)))
    (c.requires.drivers.each k b c.index-drivers-k.result here) in
    let t : IsThread b seat c.loop-k.own c.loop-k.adopted =
    thread_begins bs k b here c.args.own.now c.loop-k.own c.requires.own i.own c.args.adopted.now c.loop-k.adopted
    c.requires.adopted i.adopted c.requires.has seat lead in record {
      leads = t.leads;
      between = lead.between;
      stands = t.stands;
      driver = t.driver;
      led_so_far = t.led_so_far;
      adopted = t.adopted_stand;
      way = i.way;
    }

pub next_epoch-requires : goal.next_epoch-requires
next_epoch-requires g c = let b : Board = c.index-as_slice-k.result in record { ended = (layout b, table_of b, c.run_epoch.ensures.end) }

pub next_all-requires : goal.next_all-requires
next_all-requires g c = let i = c.loop-k.invariant in let k = c.loop-k.k in let low = c.loop-k-test.true in let end = i.end in
    let bs = c.args.course.now.boards.now in let b : Board = c.index-as_slice-k.result in
    let here : slice_get bs k ≡ Some b = slice_get-get_or bs k b (omega (arith, low, end))
    ∙ ap Some (sym (c.index-as_slice-k.is ∙ ap (λ (l : List Board). get_or l k b) c.as_slice.ensures)) in
    let led : All (settling.HasLedAll (layout b)) c.loop-k.adopted =
    all_led bs k b here c.args.own.now c.loop-k.own c.requires.own i.own c.args.adopted.now c.loop-k.adopted c.requires.adopted i.adopted
    c.requires.none in record {
      ended = all_at_end (layout b) (table_of b) c.loop-k.adopted c.run_epoch.new.adopted led c.run_epoch.ensures.adopted;
    }

pub loop-k-preserved : goal.loop-k-preserved
loop-k-preserved g c = let i = c.loop-k.invariant in let k = c.loop-k.k in let low = c.loop-k-test.true in let end = i.end in
    let bs = c.args.course.now.boards.now in let b : Board = c.index-as_slice-k.result in
    let here : slice_get bs k ≡ Some b = slice_get-get_or bs k b (omega (arith, low, end))
    ∙ ap Some (sym (c.index-as_slice-k.is ∙ ap (λ (l : List Board). get_or l k b) c.as_slice.ensures)) in
    let n = i.led.count in let m = c.requires.drivers.count in
    let inside : k < length c.loop-k.drivers = omega (arith, low, end, n, m) in
    let x : Known = c.run_epoch.new.seat in let r = c.run_epoch.ensures in let entered = c.next_epoch.ensures in
    let led : HasLedAll b (get_or c.loop-k.drivers k c.index-drivers-k.result) x =
    record { ended = r.ended; table = r.table; expect = r.expect } in record {
      end = end;
      own = comes_on k c.args.own.now c.loop-k.own c.next_epoch.new.self i.own
          (passes c.loop-k.own c.run_epoch.new.own c.next_epoch.new.self r.same
          (record { between = entered.between; next = entered.next; same = entered.same }));
      adopted = each_on k c.args.adopted.now c.loop-k.adopted c.next_all.new.states i.adopted
          (each_passes (layout b) (table_of b) c.loop-k.adopted c.run_epoch.new.adopted c.next_all.new.states r.adopted
          c.next_all.ensures.entered);
      led = led_more bs c.args.drivers.now k c.loop-k.drivers b x inside here i.led
          (λ e. subst (λ (s : Known). HasLedAll b s x)
          (get_or_default c.loop-k.drivers k c.index-drivers-k.result e inside ∙ i.led.left k e (omega arith)) led);
      looked = looked_more c.args.drivers.now c.loop-k.drivers k x c.index-drivers-k.result (g.K.Ticker.ticks c.args.ticker.now)
          (g.K.Ticker.ticks c.loop-k.ticker) (g.K.Ticker.ticks c.run_epoch.new.ticker) inside i.looked r.looked;
      way = r.way;
    }
