-- The numbers by how many there are.
use Rattle.std.proofs.Common.{◌≡◌, pos, ◌+◌, ◌*◌, ◌/◌, ◌-◌, ◌+ℤ◌, ◌≤◌, ◌∙◌, refl, arith, to_z, of_z, w64}
use Rattle.std.proofs.lemmas.Int.{ints}
use Rattle.format_filter.proofs.NumberLemmas.{span_is, kept_distance}
use Rattle.format_filter.proofs.ProgressionLemmas.{from_one, from_two, from_more, fit}
use Rattle.format_filter.proofs.progression.numbers_from.Goals as goal

pub returns-then-more-eq0 : goal.returns-then-more-eq0
returns-then-more-eq0 c =
    let far = c.from-span.ensures ∙ kept_distance c.args.high c.args.low c.abs_diff.result c.ranges.high c.ranges.low c.abs_diff.ensures in
    let e = span_is c.args.low c.args.high c.from-span.result c.requires.order far in
    let m : to_z w64 (of_z w64 c.above.result) ≡ c.args.low +ℤ pos c.args.first = omega (arith, ints) in
    from_one c.args.low c.args.high c.from-span.result c.args.first c.args.period e c.requires.positive
    (to_z w64 (of_z w64 c.above.result)) c.if-span-first.false c.if-more-eq0.true m

pub returns-then-more-eq1 : goal.returns-then-more-eq1
returns-then-more-eq1 c =
    let far = c.from-span.ensures ∙ kept_distance c.args.high c.args.low c.abs_diff.result c.ranges.high c.ranges.low c.abs_diff.ensures in
    let e = span_is c.args.low c.args.high c.from-span.result c.requires.order far in
    let m : to_z w64 (of_z w64 c.above-then-more-eq1.result) ≡ c.args.low +ℤ pos c.args.first = omega (arith, ints) in
    let k : to_z w64 (of_z w64 c.above-then-more-eq1-2.result) ≡ c.args.low +ℤ pos (c.args.first + c.args.period) = omega (arith, ints) in
    from_two c.args.low c.args.high c.from-span.result c.args.first c.args.period e c.requires.positive
    (to_z w64 (of_z w64 c.above-then-more-eq1.result))
    (to_z w64 (of_z w64 c.above-then-more-eq1-2.result)) c.if-span-first.false c.if-more-eq1.true m k

pub returns : goal.returns
returns c =
    let far = c.from-span.ensures ∙ kept_distance c.args.high c.args.low c.abs_diff.result c.ranges.high c.ranges.low c.abs_diff.ensures in
    let e = span_is c.args.low c.args.high c.from-span.result c.requires.order far in
    let more = (c.from-span.result - c.args.first) / c.args.period in
    let two : 2 ≤ more = omega arith in
    let m : to_z w64 (of_z w64 c.above-2.result) ≡ c.args.low +ℤ pos c.args.first = omega (arith, ints) in
    let k : to_z w64 (of_z w64 c.above-3.result) ≡ c.args.low +ℤ pos (c.args.first + more * c.args.period) = omega (arith, ints) in
    let half : c.args.first + 2 * c.args.period ≤ c.from-span.result =
    fit c.args.low c.args.high c.from-span.result c.args.first c.args.period e c.requires.positive c.if-span-first.false 2 two in
    let s : to_z w64 c.args.period ≡ pos c.args.period = omega (arith, ints) in
    from_more c.args.low c.args.high c.from-span.result c.args.first c.args.period e c.requires.positive
    (to_z w64 (of_z w64 c.above-2.result)) (to_z w64 (of_z w64 c.above-3.result))
    (to_z w64 c.args.period) more c.if-span-first.false refl two m k s
