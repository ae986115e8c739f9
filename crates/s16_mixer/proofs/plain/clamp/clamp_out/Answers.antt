use Rattle.std.proofs.Common.{arith, ◌≡◌, ◌<◌, pos, length, get_or, w16, to_z, of_z, add-one}
use Rattle.std.proofs.lemmas.Int.{ints, clamps}
use Rattle.pw_lists.specs.Samples.{clamped}
use Rattle.s16_mixer.proofs.RowLemmas.{map_over}
use Rattle.s16_mixer.proofs.plain.clamp.clamp_out.Goals as goal

pub loop-i-preserved : goal.loop-i-preserved
loop-i-preserved c =
    let v : to_z w16 (of_z w16 c.limit.result) ≡ clamped (get_or c.args.sum.now c.loop-i.i (pos 0)) =
    omega (arith, ints, clamps, c.limit.ensures) in
    let here : c.loop-i.i < length c.args.sum.now = omega arith in
    rw (c.loop-i.invariant, v, add-one) (map_over clamped c.args.sum.now c.args.to.now c.loop-i.i (pos 0) here (omega arith))
