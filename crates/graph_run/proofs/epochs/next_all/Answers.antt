use Rattle.std.proofs.Common.{◌<◌, length, sym, ◌∙◌, subst, arith}
use Rattle.std.proofs.lemmas.List.{get_or_default}
use Rattle.atomic_table.specs.Seated.{TableId}
use Rattle.board_rule.specs.Layout.{BoardLayout}
use Rattle.data_loop.specs.declared.loop_state.LoopState.{LoopState}
use Rattle.data_loop.specs.LoopsOnBoards.{IsAtEnd}
use Rattle.driver_cycle.proofs.SettlingLemmas.{one_more}
use Rattle.graph_run.specs.LoopsOnPlan.{HasEntered}
use Rattle.graph_run.proofs.epochs.next_all.Goals as goal

pub next_epoch-requires : goal.next_epoch-requires
next_epoch-requires c = record {
  ended = let low = c.loop-k-test.true in let h = c.loop-k.invariant.1 in let n = h.count in
      subst (λ (s : LoopState). (p : BoardLayout) × (t : TableId) × IsAtEnd p t s)
      (sym (h.left c.loop-k.k c.index-states-k.result (omega arith)))
      (c.requires.ended c.loop-k.k c.index-states-k.result (omega (arith, low, n)));
}

pub loop-k-preserved : goal.loop-k-preserved
loop-k-preserved c = let low = c.loop-k-test.true in let h = c.loop-k.invariant.1 in let n = h.count in let k = c.loop-k.k in
    let inside : k < length c.loop-k.states = omega (arith, low, n) in (
      c.loop-k.invariant.0,
      one_more HasEntered c.args.states.now k c.loop-k.states c.next_epoch.new.self inside h
          (λ d. subst (λ (x : LoopState). HasEntered x c.next_epoch.new.self)
          (get_or_default c.loop-k.states k c.index-states-k.result d inside ∙ h.left k d (omega arith)) record {
            between = c.next_epoch.ensures.between;
            next = c.next_epoch.ensures.next;
            same = c.next_epoch.ensures.same;
          }),
    )
