use Rattle.std.proofs.Common.{◌+◌, ◌-◌, ◌≡◌, ◌∙◌, ℕ, ap, sym, subst, get_or, take, arith}
use Rattle.board_rule.specs.declared.view.View.{View}
use Rattle.board_rule.specs.Layout.{layout_of}
use Rattle.io_areas.specs.Writing.{number_given}
use Rattle.io_areas.specs.working.OutputSteps.{AreMade, IsLoadedNow}
use Rattle.io_areas.proofs.OutputStepsLemmas.{not_before, next_made, may_load, loaded_is, same_given}
use Rattle.io_areas.proofs.output_turn.load_all.Goals as goal

pub load_for_write-given-requires-clause-phase : goal.load_for_write-given-requires-clause-phase
load_for_write-given-requires-clause-phase c = let p = layout_of c.args.board.now.board_shape in let v : View = c.args.seat.now.knows in
    let w : View = c.loop-link.seat.knows in
    let xs = c.args.links.now in let k = c.loop-link.link-index in let h = c.loop-link-test.true in
    may_load p v (take k xs) w (get_or xs k 0) (not_before xs k 0 c.requires.once h) c.loop-link.invariant.ends (c.requires.phase k 0 h)

pub loop-link-preserved : goal.loop-link-preserved
loop-link-preserved c = let p = layout_of c.args.board.now.board_shape in let v : View = c.args.seat.now.knows in
    let w : View = c.loop-link.seat.knows in
    let xs = c.args.links.now in let k = c.loop-link.link-index in let l : ℕ = get_or xs k 0 in let h = c.loop-link-test.true in
    let i = c.loop-link.invariant in let e = c.load_for_write-given.ensures in
    let fresh = not_before xs k 0 c.requires.once h in let back : k ≡ k + 1 - 1 = omega arith in record {
      table = e.table ∙ i.table;
      ends = subst (λ (x : View). AreMade (IsLoadedNow p v) v (take (k + 1) xs) x) (sym e.knows)
          (next_made (IsLoadedNow p v) v xs k w _ c.requires.once h (c.requires.phase k 0 h).0.1 i.ends
          (loaded_is p v (take k xs) w l fresh i.ends));
      given = λ _. e.given ∙ same_given p v (take k xs) w l fresh i.ends ∙ ap (λ (j : ℕ). number_given p v (get_or xs j 0)) back;
    }
