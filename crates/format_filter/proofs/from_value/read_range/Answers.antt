-- Numbers of one type, in order, are a Range.
use Rattle.std.proofs.Common.{◌≡◌, ◌<ℤ◌, ◌≤ℤ◌, ◌⊎◌, inl, inr, ◌∙◌, sym, ap, subst, refl, rules, arith, to_z, of_z, w64}
use Rattle.std.proofs.lemmas.Int.{ints}
use Rattle.format_filter.specs.Members.{number_of}
use Rattle.format_filter.specs.Soundness.{FitsWide}
use Rattle.format_filter.proofs.ReadingLemmas.{range_needs_number, range_needs_order, range_is_read}
use Rattle.format_filter.proofs.from_value.read_range.Goals as goal

pub returns-in-None-clause-none : goal.returns-in-None-clause-none
returns-in-None-clause-none c = λ w. range_needs_number c.args.wish.now c.args.low.now c.args.high.now (c.in-None.ensures.none refl)

pub returns-then-max-min-clause-none : goal.returns-then-max-min-clause-none
returns-then-max-min-clause-none c =
    let order : c.in_ok-max.max <ℤ c.in_ok-min.min = grind (arith, ints) in
    λ w. range_needs_order c.args.wish.now c.args.low.now c.args.high.now c.in-Some.wide c.in_ok-pick.pick c.in_ok-min.min c.in_ok-max.max
    c.in_ok-pick.ensures.some c.in_ok-min.ensures.some c.in_ok-max.ensures.some order

pub returns-clause-some : goal.returns-clause-some
returns-clause-some c =
    let wide = c.in-Some.wide in
    let pick_is : to_z w64 (of_z w64 c.in_ok-pick.pick) ≡ c.in_ok-pick.pick = search rules in
    let min_is : to_z w64 (of_z w64 c.in_ok-min.min) ≡ c.in_ok-min.min = search rules in
    let max_is : to_z w64 (of_z w64 c.in_ok-max.max) ≡ c.in_ok-max.max = search rules in
    let pick_value = c.in_ok-pick.ensures.some ∙ ap (number_of wide) (sym pick_is) in
    let pick_fits = subst (FitsWide wide) (sym pick_is) c.in_ok-pick.ensures.fits in
    let min_value = c.in_ok-min.ensures.some ∙ ap (number_of wide) (sym min_is) in
    let min_fits = subst (FitsWide wide) (sym min_is) c.in_ok-min.ensures.fits in
    let max_value = c.in_ok-max.ensures.some ∙ ap (number_of wide) (sym max_is) in
    let max_fits = subst (FitsWide wide) (sym max_is) c.in_ok-max.ensures.fits in
    let n = to_z w64 (of_z w64 c.in_ok-pick.pick) in
    let min = to_z w64 (of_z w64 c.in_ok-min.min) in
    let max = to_z w64 (of_z w64 c.in_ok-max.max) in
    let kept = to_z w64 (of_z w64 c.kept_in_range.result) in
    let kept_is : kept ≡ c.kept_in_range.result = search rules in
    let order : min ≤ℤ max = grind (arith, ints) in
    let chosen : (((min ≤ℤ n) × (n ≤ℤ max)) × (kept ≡ n))
    ⊎ (((min ≤ℤ n) × (n ≤ℤ max) → ⊥) × (kept ≡ min)) =
    elim c.kept_in_range.ensures [ inl w ↦ inl (w.0, kept_is ∙ w.1) | inr w ↦ inr (w.0, kept_is ∙ w.1) ] in
    range_is_read c.args.wish.now c.args.low.now c.args.high.now wide n min max kept pick_value min_value max_value pick_fits min_fits
    max_fits order chosen
