-- A Range and a Step as rows of numbers.
use Rattle.std.proofs.Common.{◌≡◌, ℤ, pos, ◌+ℤ◌, ◌*ℤ◌, ◌≤ℤ◌, refl, sym, ap, ◌∙◌, subst, arith}
use Rattle.std.proofs.lemmas.Int.{ints}
use Rattle.format_filter.specs.declared.choice.Choice.{Choice}
use Rattle.format_filter.specs.declared.choice.Choice.TheVariants.{Range, Step}
use Rattle.format_filter.specs.declared.choice.Wide.{Wide}
use Rattle.format_filter.specs.declared.numbers.Ranged.{Ranged}
use Rattle.format_filter.specs.Members.{IsReached}
use Rattle.format_filter.specs.Soundness.{IsSound}
use Rattle.format_filter.specs.working.Making.{IsRowOf, range_of, step_of}
use Rattle.format_filter.proofs.NumberLemmas.{way}

-- in steps of 1 each number above the first is reached
ones : (min n : ℤ) → min ≤ℤ n → IsReached min (pos 1) n
ones min n h =
    let up = way min n h in
    let once : pos up.0 *ℤ pos 1 ≡ pos up.0 = ap pos (omega arith) in
    (up.0, up.1 ∙ ap (λ (v : ℤ). min +ℤ v) (sym once))

reached_above : (min n : ℤ) → IsReached min (pos 1) n → min ≤ℤ n
reached_above min n h = let once : pos h.0 *ℤ pos 1 ≡ pos h.0 = ap pos (omega arith) in omega (arith, ints, h.1)

range_is_row : (wide : Wide) (pick min max : ℤ) → IsSound (Range wide pick min max)
    → IsRowOf (Range wide pick min max) (range_of wide pick min max)
range_is_row wide pick min max s = record {
  pick = refl;
  only = λ x w. (w.0, w.1, (ones min w.0 w.2, w.3));
  all = λ n w. (n, refl, reached_above min n w.0, w.1);
  fits = s.parts;
  step = omega (arith, ints);
}

step_is_row : (wide : Wide) (pick min max step : ℤ) → IsSound (Step wide pick min max step)
    → IsRowOf (Step wide pick min max step) (step_of wide pick min max step)
step_is_row wide pick min max step s = record {
  pick = refl;
  only = λ x w. (w.0, w.1, (w.2, w.3));
  all = λ n w. (n, refl, w.0, w.1);
  fits = (s.parts.0, s.parts.1, s.parts.2);
  step = s.parts.4;
}

pub range_row : (choice : Choice) (r : Ranged) (wide : Wide) (pick min max : ℤ) → choice ≡ Range wide pick min max
    → r ≡ range_of wide pick min max → IsSound choice → IsRowOf choice r
range_row choice r wide pick min max e f s =
    let sound = subst IsSound e s in
    subst (λ (d : Choice). IsRowOf d r) (sym e) (subst (IsRowOf (Range wide pick min max)) (sym f) (range_is_row wide pick min max sound))

pub step_row : (choice : Choice) (r : Ranged) (wide : Wide) (pick min max step : ℤ) → choice ≡ Step wide pick min max step
    → r ≡ step_of wide pick min max step → IsSound choice → IsRowOf choice r
step_row choice r wide pick min max step e f s =
    let sound = subst IsSound e s in
    subst (λ (d : Choice). IsRowOf d r) (sym e) (subst (IsRowOf (Step wide pick min max step)) (sym f)
    (step_is_row wide pick min max step sound))
