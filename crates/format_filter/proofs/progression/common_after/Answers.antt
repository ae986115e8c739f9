-- The numbers of both rows are those of a congruence.
use Rattle.std.proofs.Common.{◌≡◌, ◌≤◌, ℤ, ◌≤ℤ◌, ◌<ℤ◌, refl, arith, rules, to_z, of_z, w64, FitsSigned}
use Rattle.std.proofs.lemmas.Int.{ints, clamps, to_z-of_z}
use Rattle.std.proofs.Math.Nat.{mul-le-mul_right}
use Rattle.format_filter.proofs.NumberLemmas.{positive, step_is, span_is, way, kept_distance, kept_number}
use Rattle.format_filter.proofs.InBothLemmas.{in_both_from, none_in_both, apart}
use Rattle.format_filter.proofs.progression.common_after.Goals as goal

pub returns-then-high-late : goal.returns-then-high-late
returns-then-high-late c =
    let s = positive c.args.late.step c.requires.late in
    let t = positive c.args.early.step c.requires.early in
    let d = way c.args.early.min c.args.late.min c.requires.order in
    let high = to_z w64 (of_z w64 c.min-high.result) in
    let most : high ≤ℤ c.args.late.max = omega (arith, ints, c.min-high.ensures.self_bound) in
    let other_most : high ≤ℤ c.args.early.max = omega (arith, ints, c.min-high.ensures.other_bound) in
    let least : (n : ℤ) → n ≤ℤ c.args.late.max → n ≤ℤ c.args.early.max
    → n ≤ℤ high = λ n a b. omega (arith, ints, clamps, c.min-high.ensures.value) in
    let under : high <ℤ c.args.late.min = grind (arith, ints) in
    apart c.args.late c.args.early s.0 t.0 d.0 high s.1 t.1 d.1 most other_most least under

pub numbers_from-requires-clause-positive : goal.numbers_from-requires-clause-positive
numbers_from-requires-clause-positive c =
    let late_step : FitsSigned w64 c.args.late.step = search rules in
    let s = step_is c.args.late.step c.cast_unsigned-step.result c.requires.late
    (kept_number c.args.late.step c.cast_unsigned-step.result late_step c.cast_unsigned-step.ensures) in
    let one : 1 ≤ c.in-Some.found.period = omega (arith, c.in-Some.ensures.some.order) in
    omega (arith, s.1, mul-le-mul_right c.cast_unsigned-step.result one)

pub returns-in-Some : goal.returns-in-Some
returns-in-Some c =
    let late_step : FitsSigned w64 c.args.late.step = search rules in
    let early_step : FitsSigned w64 c.args.early.step = search rules in
    let late_min : FitsSigned w64 c.args.late.min = search rules in
    let early_min : FitsSigned w64 c.args.early.min = search rules in
    let s = step_is c.args.late.step c.cast_unsigned-step.result c.requires.late
    (kept_number c.args.late.step c.cast_unsigned-step.result late_step c.cast_unsigned-step.ensures) in
    let t = step_is c.args.early.step c.cast_unsigned-other.result c.requires.early
    (kept_number c.args.early.step c.cast_unsigned-other.result early_step c.cast_unsigned-other.ensures) in
    let d = span_is c.args.early.min c.args.late.min c.abs_diff.result c.requires.order
    (kept_distance c.args.late.min c.args.early.min c.abs_diff.result late_min early_min c.abs_diff.ensures) in
    let low : to_z w64 (of_z w64 c.args.late.min) ≡ c.args.late.min = to_z-of_z w64 c.args.late.min late_min in
    let most : to_z w64 (of_z w64 c.min-high.result) ≤ℤ c.args.late.max = omega (arith, ints, c.min-high.ensures.self_bound) in
    let other_most : to_z w64 (of_z w64 c.min-high.result) ≤ℤ c.args.early.max = omega (arith, ints, c.min-high.ensures.other_bound) in
    let least : (n : ℤ) → n ≤ℤ c.args.late.max → n ≤ℤ c.args.early.max
    → n ≤ℤ to_z w64 (of_z w64 c.min-high.result) = λ n a b. omega (arith, ints, clamps, c.min-high.ensures.value) in
    in_both_from c.args.late c.args.early c.cast_unsigned-step.result c.cast_unsigned-other.result c.abs_diff.result
    (to_z w64 (of_z w64 c.min-high.result)) s.0 t.0 d most other_most least
    (to_z w64 (of_z w64 c.args.late.min))
    c.complement-rest.result c.product-first.result c.product-period.result c.in-Some.found c.numbers_from.result low
    c.product-first.ensures c.product-period.ensures c.in-Some.ensures.some
    c.complement-rest.ensures.whole c.complement-rest.ensures.only c.numbers_from.ensures

pub returns-in-None : goal.returns-in-None
returns-in-None c =
    let late_step : FitsSigned w64 c.args.late.step = search rules in
    let early_step : FitsSigned w64 c.args.early.step = search rules in
    let late_min : FitsSigned w64 c.args.late.min = search rules in
    let early_min : FitsSigned w64 c.args.early.min = search rules in
    let s = step_is c.args.late.step c.cast_unsigned-step.result c.requires.late
    (kept_number c.args.late.step c.cast_unsigned-step.result late_step c.cast_unsigned-step.ensures) in
    let t = step_is c.args.early.step c.cast_unsigned-other.result c.requires.early
    (kept_number c.args.early.step c.cast_unsigned-other.result early_step c.cast_unsigned-other.ensures) in
    let d = span_is c.args.early.min c.args.late.min c.abs_diff.result c.requires.order
    (kept_distance c.args.late.min c.args.early.min c.abs_diff.result late_min early_min c.abs_diff.ensures) in
    let high = to_z w64 (of_z w64 c.min-high.result) in
    let most : high ≤ℤ c.args.late.max = omega (arith, ints, c.min-high.ensures.self_bound) in
    let other_most : high ≤ℤ c.args.early.max = omega (arith, ints, c.min-high.ensures.other_bound) in
    let least : (n : ℤ) → n ≤ℤ c.args.late.max → n ≤ℤ c.args.early.max
    → n ≤ℤ high = λ n a b. omega (arith, ints, clamps, c.min-high.ensures.value) in
    none_in_both c.args.late c.args.early c.cast_unsigned-step.result c.cast_unsigned-other.result c.abs_diff.result high s.0 t.0 d most
    other_most least
    c.complement-rest.result c.complement-rest.ensures.only (c.in-None.ensures.none refl)
