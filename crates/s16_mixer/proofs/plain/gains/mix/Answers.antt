use Rattle.std.proofs.Common.{arith, ◌≡◌, ◌*ℤ◌, ◌+ℤ◌, w16, w32, to_z, of_z, ◌∙◌, ap, ap₂}
use Rattle.std.specs.Int.{int_shr}
use Rattle.std.proofs.lemmas.Int.{ints, to_z-of_z}
use Rattle.pw_lists.specs.Samples.{clamped}
use Rattle.s16_mixer.proofs.plain.gains.mix.Goals as goal

pub returns : goal.returns
returns c =
    let a_fits = c.ranges.a in
    let b_fits = c.ranges.b in
    let ga_fits = c.ranges.ga in
    let gb_fits = c.ranges.gb in
    let left : c.product.result ≡ c.args.a *ℤ c.args.ga = simp to_z-of_z at c.product.ensures.value in
    let right : c.product-2.result ≡ c.args.b *ℤ c.args.gb = simp to_z-of_z at c.product-2.ensures.value in
    let sum : to_z w32 (of_z w32 (to_z w32 (of_z w32 c.product.result) +ℤ to_z w32 (of_z w32 c.product-2.result)))
    ≡ c.product.result +ℤ c.product-2.result = omega (arith, ints) in
    let same : to_z w16 (of_z w16 c.rounded.result) ≡ c.rounded.result = omega (arith, ints) in
    same ∙ c.rounded.ensures ∙ ap (λ z. clamped (int_shr z 8)) (sum ∙ ap₂ (λ x y. x +ℤ y) left right)
