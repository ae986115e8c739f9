use Rattle.std.proofs.Common.{arith, ◌≡◌, ◌≤◌, ◌*ℤ◌, w32, to_z, of_z, SFits, mul-le-mul}
use Rattle.std.specs.Int.RustNames.{unsigned_abs}
use Rattle.std.proofs.lemmas.Int.{ints, to_z-of_z, fits_signed_mul, unsigned_abs-mul}
use Rattle.s16_mixer.proofs.plain.gains.product.Goals as goal

pub returns : goal.returns
returns c =
    let x_fits = c.ranges.x in
    let g_fits = c.ranges.g in
    let xa : unsigned_abs c.args.x ≤ 32768 = omega (arith, ints) in
    let ga : unsigned_abs c.args.g ≤ 32767 = omega (arith, ints) in
    let p : SFits w32 (c.args.x *ℤ c.args.g) = fits_signed_mul w32 c.args.x c.args.g 32768 32767 xa ga (omega arith) in
    let same : c.from.result ≡ c.args.x = simp to_z-of_z at c.from.ensures in
    let value : to_z w32 (of_z w32 (to_z w32 (of_z w32 c.from.result) *ℤ to_z w32 (of_z w32 c.args.g))) ≡ c.args.x *ℤ c.args.g =
    grind (arith, to_z-of_z) in
    let limit : unsigned_abs (c.args.x *ℤ c.args.g) ≤ 1073709056 = rw unsigned_abs-mul (mul-le-mul xa ga) in
    record { value = value; limit = rw value limit }
