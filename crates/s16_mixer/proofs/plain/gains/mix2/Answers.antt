use Rattle.std.proofs.Common.{rules, arith, ◌≡◌, ◌<◌, ℤ, pos, length, get_or, w16, w32, to_z, of_z, add-one, sym, SFits}
use Rattle.std.proofs.lemmas.Int.{ints, to_z-of_z}
use Rattle.std.proofs.lemmas.Grind.{common_steps}
use Rattle.pw_lists.specs.Samples.{mixed}
use Rattle.s16_mixer.proofs.RowLemmas.{zip_over}
use Rattle.s16_mixer.proofs.plain.gains.mix2.Goals as goal

pub loop-i-preserved : goal.loop-i-preserved
loop-i-preserved c =
    let here : c.loop-i.i < length c.args.a.now = omega arith in
    let same : length c.args.a.now ≡ length c.args.b.now = omega arith in
    let ga_fits = c.ranges.ga in
    let gb_fits = c.ranges.gb in
    let a_fits : SFits w16 (get_or c.args.a.now c.loop-i.i (pos 0)) = search rules in
    let b_fits : SFits w16 (get_or c.args.b.now c.loop-i.i (pos 0)) = search rules in
    let v = simp to_z-of_z at c.mix.ensures in
    let w : to_z w16 (of_z w16 c.mix.result) ≡ c.mix.result = omega (arith, ints) in
    let ea : to_z w32 (of_z w32 c.args.ga) ≡ c.args.ga = omega (arith, ints) in
    let eb : to_z w32 (of_z w32 c.args.gb) ≡ c.args.gb = omega (arith, ints) in
    let done = zip_over (λ (p : ℤ × ℤ). mixed c.args.ga c.args.gb p.0 p.1) c.args.a.now c.args.b.now c.args.to.now c.loop-i.i (pos 0)
    (pos 0) here same (sym c.requires.length_a) in
    rw (ea, eb, w, v, c.loop-i.invariant, ea, eb, add-one) done

pub returns : goal.returns
returns c =
    let ea : to_z w32 (of_z w32 c.args.ga) ≡ c.args.ga = omega (arith, ints) in
    let eb : to_z w32 (of_z w32 c.args.gb) ≡ c.args.gb = omega (arith, ints) in
    let done = rw (ea, eb) at c.loop-i.invariant in
    grind (arith, common_steps)
