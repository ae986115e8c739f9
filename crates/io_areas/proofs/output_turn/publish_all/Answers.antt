use Rattle.std.proofs.Common.{◌+◌, ◌∙◌, ℕ, sym, subst, get_or, take}
use Rattle.board_rule.specs.declared.view.View.{View}
use Rattle.board_rule.specs.Layout.{layout_of}
use Rattle.io_areas.specs.working.OutputSteps.{AreMade, IsPublishedNow}
use Rattle.io_areas.proofs.OutputStepsLemmas.{not_before, next_made, may_publish, published_is}
use Rattle.io_areas.proofs.output_turn.publish_all.Goals as goal

pub store_have_data-requires-clause-phase : goal.store_have_data-requires-clause-phase
store_have_data-requires-clause-phase c = let p = layout_of c.args.board.now.board_shape in let v : View = c.args.seat.now.knows in
    let w : View = c.loop-link.seat.knows in
    let xs = c.args.links.now in let k = c.loop-link.link-index in let h = c.loop-link-test.true in
    may_publish p v (take k xs) w (get_or xs k 0) (not_before xs k 0 c.requires.once h) c.args.id c.loop-link.invariant.ends
    (c.requires.phase k 0 h)

pub loop-link-preserved : goal.loop-link-preserved
loop-link-preserved c = let p = layout_of c.args.board.now.board_shape in let v : View = c.args.seat.now.knows in
    let w : View = c.loop-link.seat.knows in
    let xs = c.args.links.now in let k = c.loop-link.link-index in let l : ℕ = get_or xs k 0 in let h = c.loop-link-test.true in
    let i = c.loop-link.invariant in let e = c.store_have_data.ensures in let b : ℕ = c.args.id in record {
      table = e.table ∙ i.table;
      ends = subst (λ (x : View). AreMade (IsPublishedNow p v b) v (take (k + 1) xs) x) (sym e.knows)
          (next_made (IsPublishedNow p v b) v xs k w _ c.requires.once h (c.requires.phase k 0 h).0.1 i.ends
          (published_is p v (take k xs) w l (not_before xs k 0 c.requires.once h) b i.ends));
    }
