use Rattle.std.proofs.Common.{rules, arith, ◌≡◌, suc, ◌+◌, ◌*◌, ◌≤◌, pos, length, get_or, w16, to_z, of_z, SFits, refl}
use Rattle.std.proofs.lemmas.Int.{to_z-of_z}
use Rattle.pw_lists.specs.Samples.{sample_at}
use Rattle.s16_mixer.proofs.RowLemmas.{piece_over}
use Rattle.s16_mixer.proofs.plain.channels.pick_frame.Goals as goal

pub loop-j-preserved : goal.loop-j-preserved
loop-j-preserved c =
    let start = c.args.i * length c.args.list.now in
    let j = c.loop-j.j in
    let picked = get_or c.args.list.now c.loop-j.j 0 in
    let fits : SFits w16 (get_or c.args.s.now (c.args.i * c.args.channels + picked) (pos 0)) = search rules in
    let v : to_z w16 (of_z w16 (get_or c.args.s.now (c.args.i * c.args.channels + picked) (pos 0)))
    ≡ sample_at c.args.channels c.args.s.now c.args.i picked = to_z-of_z w16 _ fits in
    let next : j + 1 ≡ suc j = omega arith in
    let after : start + suc j ≡ suc (start + j) = omega arith in
    let within : start + length c.args.list.now ≤ length c.args.to.now = omega arith in
    let step = piece_over (λ k. sample_at c.args.channels c.args.s.now c.args.i k) c.args.list.now c.args.to.now start j (start + j) 0
    (omega arith) within refl in
    rw (c.loop-j.invariant, v, next, after) step
