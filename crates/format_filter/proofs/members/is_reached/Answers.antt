-- A number is reached where its distance is a multiple of the step.
use Rattle.std.proofs.Common.{arith, ◌%◌, ◌≤ℤ◌}
use Rattle.std.proofs.lemmas.Int.{ints}
use Rattle.std.proofs.lemmas.Bool.{eqb-true, eq-eqb}
use Rattle.format_filter.proofs.NumberLemmas.{reached_told, kept_distance, kept_number}
use Rattle.format_filter.proofs.members.is_reached.Goals as goal

pub returns-then-n-min : goal.returns-then-n-min
returns-then-n-min c =
    let order : c.args.min ≤ℤ c.args.n = grind (arith, ints) in
    let far = kept_distance c.args.n c.args.min c.abs_diff.result c.ranges.n c.ranges.min c.abs_diff.ensures in
    let step = kept_number c.args.step c.cast_unsigned.result c.ranges.step c.cast_unsigned.ensures in
    let told = reached_told c.args.min c.args.step c.args.n c.abs_diff.result c.cast_unsigned.result c.requires order far step in (
      λ t. told.0 (eqb-true (c.abs_diff.result % c.cast_unsigned.result) 0 t),
      λ r. eq-eqb (c.abs_diff.result % c.cast_unsigned.result) 0 (told.1 r),
    )
