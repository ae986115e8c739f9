use Rattle.std.proofs.Common.{arith, ◌≡◌, w16, w32, to_z, of_z, SFits}
use Rattle.std.specs.Int.{int_shr}
use Rattle.std.proofs.lemmas.Int.{ints, to_z-of_z}
use Rattle.s16_mixer.proofs.ShiftLemmas.{SFits-shr_z}
use Rattle.s16_mixer.proofs.plain.gains.rounded.Goals as goal

pub returns : goal.returns
returns c =
    let fits = c.ranges.wide in
    let q : SFits w32 (int_shr c.args.wide 8) = SFits-shr_z _ 256 fits in
    let in_range : to_z w16 (of_z w16 (to_z w32 (of_z w32 c.clamp.result))) ≡ c.clamp.result = omega (arith, ints) in
    let same : to_z w32 (of_z w32 c.args.wide) ≡ c.args.wide = omega (arith, ints) in
    let shifted : to_z w32 (of_z w32 (int_shr c.args.wide 8)) ≡ int_shr c.args.wide 8 = to_z-of_z w32 _ q in
    grind (arith, to_z-of_z, c.clamp.ensures.value)
