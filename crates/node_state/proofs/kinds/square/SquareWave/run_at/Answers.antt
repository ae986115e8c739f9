use Rattle.std.proofs.Common.{◌≡◌, ◌∙◌, ◌≤◌, ◌*◌, ◌%◌, false, ap, arith, w16, w32, to_z, of_z, neg_ℤ, nat_lt, pos, ◌-ℤ◌}
use Rattle.std.proofs.Common.{if◌then◌else◌}
use Rattle.std.proofs.lemmas.Int.{ints}
use Rattle.std.proofs.lemmas.Grind.{common_steps, div_ceil_times}
use Rattle.std.proofs.lemmas.Bool.Decides.{nat_tests}
use Rattle.node_state.proofs.kinds.square.SquareWave.run_at.Goals as goal

pub returns-else-phase-half-clause-value : goal.returns-else-phase-half-clause-value
returns-else-phase-half-clause-value c = λ i h g.
    let period = c.args.self.now.period in
    let amp = c.args.self.now.amp in
    let half : period ≤ c.div_ceil-half.result * 2 = omega (arith, c.div_ceil-half.ensures, (div_ceil_times period 2 (omega arith)).0) in
    let late : period ≤ 2 * i = omega (arith, half, c.if-phase-half.false, h) in
    let place : i % period ≡ i = grind (arith, common_steps, g) in
    let test : nat_lt (2 * (i % period)) period ≡ false = grind (arith, nat_tests, place, late) in
    let value : neg_ℤ amp ≡ to_z w16 (of_z w16 (to_z w32 (of_z w32 (pos 0 -ℤ to_z w32 (of_z w32 amp))))) =
    let low = c.args.self.now.least in let high = c.args.self.now.greatest in omega (arith, ints) in
    ap (λ b. if b then amp else neg_ℤ amp) test ∙ value
