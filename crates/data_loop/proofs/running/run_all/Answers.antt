use Rattle.std.proofs.Common.{◌≡◌, ◌<◌, ◌-◌, [], ◌∷◌, length, refl, ap, sym, ◌∙◌, true≢false, arith}
use Rattle.ready_queues.specs.declared.start_view.StartView.{StartView}
use Rattle.node_progress.specs.declared.run_model.RunModel.{RunModel}
use Rattle.data_loop.specs.Loops.{plan_of}
use Rattle.data_loop.proofs.RunningLemmas.{left, done, way_on, same_loop_refl, same_loop_on, none_on}
use Rattle.data_loop.proofs.running.run_all.Goals as goal

pub go_through-requires-clause-left : goal.go_through-requires-clause-left
go_through-requires-clause-left g c = left c.args.boards.now c.loop-state.state c.loop-state.invariant.under_way
    (λ end. true≢false (sym (c.at_end.ensures.1 end) ∙ c.loop-state-test.true))

pub loop-state-smaller : goal.loop-state-smaller
loop-state-smaller g c = let s = c.loop-state.state in let t = c.go_through.new.state in
    let low = left c.args.boards.now s c.loop-state.invariant.under_way (λ end. true≢false (sym (c.at_end.ensures.1 end) ∙ c.loop-state-test.true)) in
    let next = c.go_through.ensures.next in
    let same : length (plan_of t).epochs ≡ length (plan_of s).epochs = ap (λ (x : RunModel). length x.plan.value.epochs) c.go_through.ensures.same.run_model in
    let less : length (plan_of t).epochs - t.epoch < length (plan_of s).epochs - s.epoch = omega (arith, low, next, same) in less

pub returns-clause-done : goal.returns-clause-done
returns-clause-done g c = done c.args.boards.now c.loop-state.state c.loop-state.invariant.under_way (c.at_end.ensures.0 c.loop-state-test.false)

pub loop-state-init : goal.loop-state-init
loop-state-init g c = record {
  under_way = c.requires.under_way;
  same = same_loop_refl c.args.state;
  none = c.requires.none;
  gone = λ t b on. (c.started-way.result, c.started-way.ensures.started, on);
  way = way_on c.args.ways.now c.args.state c.args.state c.args.way c.started-way.result refl c.started-way.ensures.started.number
      c.started-way.ensures.answered c.requires.way;
  started = ap (λ (v : StartView). v.runs) c.started-way.ensures.started.begins;
}

pub loop-state-preserved : goal.loop-state-preserved
loop-state-preserved g c = let i = c.loop-state.invariant in let e = c.go_through.ensures in
    let s = c.loop-state.state in let t = c.go_through.new.state in record {
      under_way = e.under_way;
      same = same_loop_on c.args.state s t i.same e.same;
      none = none_on s t e.same i.none;
      gone = λ u b on. i.gone u b ((t, c.go_through.new.way) ∷ on.0, (e.through, on.1));
      way = e.way;
      started = e.started;
    }

pub returns-clause-gone : goal.returns-clause-gone
returns-clause-gone g c = c.loop-state.invariant.gone c.loop-state.state c.loop-state.way ([], (refl, refl))
