use Rattle.std.proofs.Common.{rules, w16, SFits, ◌≡◌, ℕ, ℤ, pos, ◌<◌, max, length, get_or, arith, ap₂, add-one, refl, ◌∙◌}
use Rattle.std.specs.Prelude.{unsigned_abs}
use Rattle.std.proofs.lemmas.Int.{to_z-of_z}
use Rattle.std.proofs.lemmas.Grind.{common_steps}
use Rattle.s16_mixer.proofs.RowLemmas.{zip_over, zip_past}
use Rattle.s16_mixer.proofs.peaks.raise.Goals as goal

pub loop-j-preserved : goal.loop-j-preserved
loop-j-preserved c =
    let f : ℕ × ℤ → ℕ = λ p. max p.0 (unsigned_abs p.1) in
    let j = c.loop-j.j in
    let ts = c.args.tops.now in
    let here : j < length ts = omega (arith, c.loop-j-test.true, c.requires.lengths) in
    let same : get_or c.loop-j.tops j 0 ≡ get_or ts j 0 =
    rw c.loop-j.invariant.0 (zip_past f ts c.args.s.now ts j 0 here c.requires.lengths refl) in
    let fits : SFits w16 (get_or c.args.s.now j (pos 0)) = search rules in
    let x = to_z-of_z w16 (get_or c.args.s.now j (pos 0)) fits in
    let v : c.higher.result ≡ max (get_or ts j 0) (unsigned_abs (get_or c.args.s.now j (pos 0))) = c.higher.ensures.value
    ∙ ap₂ (λ t y. max t (unsigned_abs y)) same x in (
      rw (v, c.loop-j.invariant.0, add-one) (zip_over f ts c.args.s.now ts j 0 (pos 0) here c.requires.lengths refl),
      grind (arith, common_steps, c.loop-j.invariant.1, c.higher.ensures.limit),
    )
