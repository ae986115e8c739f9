use Rattle.std.proofs.Common.{◌≡◌, ◌<◌, ◌∙◌, List, [], Some, length, get_or, slice_get, refl, sym, ap, subst, arith}
use Rattle.std.proofs.lemmas.List.{get_or_default}
use Rattle.std.proofs.lemmas.List.Elements.{All-nil}
use Rattle.std.proofs.lemmas.Option.{slice_get-get_or}
use Rattle.board_rule.specs.declared.board.Board.{Board}
use Rattle.board_rule.specs.Known.{Known}
use Rattle.graph_run.specs.Leads.{HasLedAll}
use Rattle.graph_run.specs.LoopsOnPlan.{IsReady, IsFirstLead}
use Rattle.graph_run.proofs.EpochLemmas.{comes_on, thread_begins, led_more, looked_more}
use Rattle.steal_loops.proofs.leading.run_epochs.Goals as goal

pub run_epoch-requires-clause-thread : goal.run_epoch-requires-clause-thread
run_epoch-requires-clause-thread g c = let i = c.loop-k.invariant in let k = c.loop-k.k in let low = c.loop-k-test.true in let end = i.end in
    let bs = c.args.shared.now.boards in let b : Board = c.index-as_slice-k.result in
    let here : slice_get bs k ≡ Some b = slice_get-get_or bs k b (omega (arith, low, end))
    ∙ ap Some (sym (c.index-as_slice-k.is ∙ ap (λ (l : List Board). get_or l k b) c.as_slice.ensures)) in
    let seat : Known = get_or c.loop-k.drivers k c.index-drivers-k.result in
    let lead : IsFirstLead c.args.own.now.run_model k b seat =
    subst (IsFirstLead c.args.own.now.run_model k b) (sym (i.led.left k c.index-drivers-k.result (omega arith)))
    (c.requires.drivers.each k b c.index-drivers-k.result here) in
    thread_begins bs k b here c.args.own.now c.loop-k.own c.requires.own i.own [] []
    (All-nil (IsReady bs)) (record { count = refl; each = λ j d inside. absurd (omega (arith, inside)) }) c.requires.has seat lead

pub run_epoch-requires-clause-between : goal.run_epoch-requires-clause-between
run_epoch-requires-clause-between g c = let i = c.loop-k.invariant in let k = c.loop-k.k in let low = c.loop-k-test.true in let end = i.end in
    let bs = c.args.shared.now.boards in let b : Board = c.index-as_slice-k.result in
    let here : slice_get bs k ≡ Some b = slice_get-get_or bs k b (omega (arith, low, end))
    ∙ ap Some (sym (c.index-as_slice-k.is ∙ ap (λ (l : List Board). get_or l k b) c.as_slice.ensures)) in
    (subst (IsFirstLead c.args.own.now.run_model k b) (sym (i.led.left k c.index-drivers-k.result (omega arith)))
    (c.requires.drivers.each k b c.index-drivers-k.result here)).between

pub loop-k-preserved : goal.loop-k-preserved
loop-k-preserved g c = let i = c.loop-k.invariant in let k = c.loop-k.k in let low = c.loop-k-test.true in let end = i.end in
    let bs = c.args.shared.now.boards in let b : Board = c.index-as_slice-k.result in
    let here : slice_get bs k ≡ Some b = slice_get-get_or bs k b (omega (arith, low, end))
    ∙ ap Some (sym (c.index-as_slice-k.is ∙ ap (λ (l : List Board). get_or l k b) c.as_slice.ensures)) in
    let n = i.led.count in let m = c.requires.drivers.count in
    let inside : k < length c.loop-k.drivers = omega (arith, low, end, n, m) in
    let x : Known = c.run_epoch.new.seat in record {
      end = end;
      own = comes_on k c.args.own.now c.loop-k.own c.run_epoch.new.own i.own c.run_epoch.ensures.own;
      led = led_more bs c.args.drivers.now k c.loop-k.drivers b x inside here i.led
          (λ e. subst (λ (s : Known). HasLedAll b s x)
          (get_or_default c.loop-k.drivers k c.index-drivers-k.result e inside ∙ i.led.left k e (omega arith)) c.run_epoch.ensures.led);
      looked = looked_more c.args.drivers.now c.loop-k.drivers k x c.index-drivers-k.result (g.K.Ticker.ticks c.args.ticker.now)
          (g.K.Ticker.ticks c.loop-k.ticker) (g.K.Ticker.ticks c.run_epoch.new.ticker) inside i.looked c.run_epoch.ensures.looked;
      scan = c.run_epoch.ensures.scan;
    }
