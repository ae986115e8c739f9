use Rattle.std.proofs.Common.{rules, arith, ◌≡◌, ◌∙◌, ap, ℕ, suc, ◌+◌, ◌*◌, ℤ, pos, [], ◌∷◌, take, drop, ◌++◌, get_or}
use Rattle.std.proofs.Common.{slice_index, w16, to_z, of_z, SFits, refl}
use Rattle.std.proofs.lemmas.Int.{to_z-of_z}
use Rattle.pw_lists.specs.Samples.{sample_at}
use Rattle.s16_mixer.proofs.RowLemmas.{pair_over}
use Rattle.s16_mixer.proofs.FrameLemmas.{frame_over}
use Rattle.s16_mixer.proofs.plain.channels.pick_pairs.Goals as goal

pub loop-i-preserved : goal.loop-i-preserved
loop-i-preserved c =
    let s = c.args.s.now in
    let i = c.loop-i.i in
    let to = c.loop-i.to in
    let list = c.args.first ∷ c.args.second ∷ [] in
    let at : ℕ → ℤ = λ k. sample_at c.args.channels s i k in
    let first_fits : SFits w16 (get_or s (i * c.args.channels + c.args.first) (pos 0)) = search rules in
    let second_fits : SFits w16 (get_or s (i * c.args.channels + c.args.second) (pos 0)) = search rules in
    let first : to_z w16 (of_z w16 (get_or s (i * c.args.channels + c.args.first) (pos 0))) ≡ at c.args.first =
    to_z-of_z w16 _ first_fits in
    let second : to_z w16 (of_z w16 (get_or s (i * c.args.channels + c.args.second) (pos 0))) ≡ at c.args.second =
    to_z-of_z w16 _ second_fits in
    let even : 2 * i ≡ i * 2 = omega arith in
    let odd : 2 * i + 1 ≡ suc (i * 2) = omega arith in
    let after : suc (suc (i * 2)) ≡ (i + 1) * 2 = omega arith in
    let step = pair_over (at c.args.first) (at c.args.second) to (i * 2) (suc (i * 2)) (omega arith) refl in
    let frame = frame_over (λ i j. sample_at c.args.channels s i (slice_index list j)) at list i c.args.to.now to
    (λ k lt. refl) c.loop-i.invariant in
    rw (first, second, odd, even) (step ∙ ap (λ m. take (i * 2) to ++ at c.args.first ∷ at c.args.second ∷ [] ++ drop m to) after ∙ frame)
