use Rattle.std.proofs.Common.{rules, arith, ◌≡◌, ◌∙◌, ap, suc, ◌+◌, ◌*◌, pos, get_or, w16, to_z, of_z, SFits}
use Rattle.std.proofs.lemmas.Int.{to_z-of_z}
use Rattle.pw_lists.specs.Samples.{sample_at}
use Rattle.s16_mixer.proofs.RowLemmas.{range_over}
use Rattle.s16_mixer.proofs.FrameLemmas.{picked_one}
use Rattle.s16_mixer.proofs.plain.channels.split.Goals as goal

pub loop-i-preserved : goal.loop-i-preserved
loop-i-preserved c =
    let s = c.args.s.now in
    let i = c.loop-i.i in
    let even : 2 * i ≡ i * 2 + 0 = omega arith in
    let odd : 2 * i + 1 ≡ i * 2 + 1 = omega arith in
    let next : i + 1 ≡ suc i = omega arith in
    let from : i ≡ 0 + i = omega arith in
    let left_fits : SFits w16 (get_or s (2 * i) (pos 0)) = search rules in
    let right_fits : SFits w16 (get_or s (2 * i + 1) (pos 0)) = search rules in
    let left : to_z w16 (of_z w16 (get_or s (2 * i) (pos 0))) ≡ sample_at 2 s i 0 = to_z-of_z w16 _ left_fits
    ∙ ap (λ k. get_or s k (pos 0)) even in
    let right : to_z w16 (of_z w16 (get_or s (2 * i + 1) (pos 0))) ≡ sample_at 2 s i 1 = to_z-of_z w16 _ right_fits
    ∙ ap (λ k. get_or s k (pos 0)) odd in (
      rw (c.loop-i.invariant.0, left, next) (range_over (λ k. sample_at 2 s k 0) 0 c.args.left.now i i (omega arith) from),
      rw (c.loop-i.invariant.1, right, next) (range_over (λ k. sample_at 2 s k 1) 0 c.args.right.now i i (omega arith) from),
    )

pub returns-clause-left : goal.returns-clause-left
returns-clause-left c = picked_one c.args.s.now c.args.left.now c.loop-i.left 0 c.loop-i.i (omega arith) (omega arith) c.loop-i.invariant.0

pub returns-clause-right : goal.returns-clause-right
returns-clause-right c = picked_one c.args.s.now c.args.right.now c.loop-i.right 1 c.loop-i.i (omega arith)
    (omega arith) c.loop-i.invariant.1
