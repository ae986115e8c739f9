use Rattle.std.proofs.Common.{arith, ⊎_elim, subst, ap, ◌∙◌, ◌≡◌, ◌<◌, ℤ, pos, ◌+ℤ◌, length, get_or, w32, to_z, of_z, add-one, refl}
use Rattle.std.proofs.lemmas.Int.{ints}
use Rattle.std.proofs.lemmas.List.{get_or_default}
use Rattle.std.proofs.lemmas.Bool.{cases_lt}
use Rattle.s16_mixer.specs.Ranges.{IsWithin}
use Rattle.s16_mixer.proofs.RowLemmas.{zip_over, zip_past}
use Rattle.s16_mixer.proofs.plain.summing.mix_into.Goals as goal

pub loop-i-preserved : goal.loop-i-preserved
loop-i-preserved c =
    let add : ℤ × ℤ → ℤ = λ p. p.0 +ℤ p.1 in
    let here : c.loop-i.i < length c.args.sum.now = omega arith in
    let same : get_or c.loop-i.sum c.loop-i.i (pos 0) ≡ get_or c.args.sum.now c.loop-i.i (pos 0) =
    rw c.loop-i.invariant.sum (zip_past (λ (p : ℤ × ℤ). p.0 +ℤ p.1) c.args.sum.now c.args.s.now c.args.sum.now c.loop-i.i
    (pos 0) here c.requires.lengths refl) in
    let v : to_z w32 (of_z w32 c.plus.result) ≡ get_or c.args.sum.now c.loop-i.i (pos 0) +ℤ get_or c.args.s.now c.loop-i.i (pos 0) =
    omega (arith, ints, c.plus.ensures.sum) in
    let fits = c.plus.ensures.short in
    let short : IsWithin 1 (get_or c.args.s.now c.loop-i.i (pos 0)) = (omega (arith, ints, fits.0), omega (arith, ints, fits.1)) in
    record {
      sum = rw (v, c.loop-i.invariant.sum, add-one) (zip_over (λ (p : ℤ × ℤ). p.0 +ℤ p.1) c.args.sum.now c.args.s.now c.args.sum.now c.loop-i.i (pos 0) (pos 0) here c.requires.lengths refl);
      short = λ j d low inside. ⊎_elim
          (λ early. c.loop-i.invariant.short j d early inside)
          (λ late. let e : c.loop-i.i ≡ j = omega (arith, low, late) in
          subst (IsWithin 1) (get_or_default c.args.s.now c.loop-i.i (pos 0) d c.loop-i-test.true
          ∙ ap (λ k. get_or c.args.s.now k d) e) short)
          (cases_lt j c.loop-i.i);
    }
