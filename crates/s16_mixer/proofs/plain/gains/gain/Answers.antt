use Rattle.std.proofs.Common.{rules, arith, ◌≡◌, ◌<◌, pos, length, get_or, w16, w32, to_z, of_z, add-one, SFits}
use Rattle.std.proofs.lemmas.Int.{ints, to_z-of_z}
use Rattle.pw_lists.specs.Samples.{scaled}
use Rattle.s16_mixer.proofs.RowLemmas.{map_over}
use Rattle.s16_mixer.proofs.plain.gains.gain.Goals as goal

pub loop-i-preserved : goal.loop-i-preserved
loop-i-preserved c =
    let here : c.loop-i.i < length c.args.s.now = omega arith in
    let g_fits = c.ranges.g in
    let x_fits : SFits w16 (get_or c.args.s.now c.loop-i.i (pos 0)) = search rules in
    let v = simp to_z-of_z at c.scale.ensures in
    let w : to_z w16 (of_z w16 c.scale.result) ≡ c.scale.result = omega (arith, ints) in
    let e : to_z w32 (of_z w32 c.args.g) ≡ c.args.g = omega (arith, ints) in
    rw (e, w, v, c.loop-i.invariant, e, add-one) (map_over (scaled c.args.g) c.args.s.now c.args.to.now c.loop-i.i (pos 0) here
    (omega arith))
