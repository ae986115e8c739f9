use Rattle.std.proofs.Common.{rules, arith, ◌≡◌, ◌<◌, ◌+ℤ◌, ◌∙◌, length, min, get_or, pos, w16, w64, to_z, of_z, SFits, sym}
use Rattle.std.proofs.lemmas.Int.{ints}
use Rattle.std.proofs.lemmas.List.Edits.{fill_by_more}
use Rattle.std.proofs.lemmas.List.FromFn.{fill_by_all}
use Rattle.cycle_model.proofs.KindLemmas.{pair_row}
use Rattle.cycle_model.proofs.inputs.add.Goals as goal

pub loop-i-preserved : goal.loop-i-preserved
loop-i-preserved c =
    let sums = c.args.sums.now in
    let row = c.args.row.now in
    let i = c.loop-i.i in
    let here : i < length c.loop-i.to = omega arith in
    let row_fits : SFits w16 (get_or row i (pos 0)) = search rules in
    let sum_fits = c.in-Some.ensures.0 in
    let value = c.in-Some.ensures.1 in
    let e : to_z w64 (of_z w64 c.in-Some.sum) ≡ get_or sums i (pos 0) +ℤ get_or row i (pos 0) = omega (arith, ints, c.from.ensures) in
    rw e (fill_by_more (λ k. get_or sums k (pos 0) +ℤ get_or row k (pos 0)) c.loop-i.to i (pos 0) here c.loop-i.invariant)

pub returns : goal.returns
returns c =
    let long : length c.loop-i.to ≡ min (length c.args.sums.now) (length c.args.row.now) = omega arith in
    fill_by_all (λ k. get_or c.args.sums.now k (pos 0) +ℤ get_or c.args.row.now k (pos 0)) c.loop-i.to
    (min (length c.args.sums.now) (length c.args.row.now)) (pos 0) long
    (λ k h. c.loop-i.invariant k (omega arith))
    ∙ sym (pair_row (λ x y. x +ℤ y) c.args.sums.now c.args.row.now)
