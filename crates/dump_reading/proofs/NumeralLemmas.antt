-- Digits, read one by one.
use Rattle.std.proofs.Common.{ℕ, zero, suc, ◌+◌, ◌-◌, ◌*◌, ◌≤◌, List, [], ◌∷◌, take, arith}
use Rattle.std.specs.Prelude.{fold}
use Rattle.dump_reading.specs.working.Numerals.{digits_number}

-- more digits do not make a number less
fold_grows : (start : ℕ) (digits : List ℕ) → start ≤ fold (λ n b. n * 10 + (b - 0x30)) start digits
fold_grows start [] = omega arith
fold_grows start (b ∷ digits) = omega (arith, fold_grows (start * 10 + (b - 0x30)) digits)

take_grows : (start : ℕ) (i : ℕ) (digits : List ℕ)
    → fold (λ n b. n * 10 + (b - 0x30)) start (take i digits) ≤ fold (λ n b. n * 10 + (b - 0x30)) start digits
take_grows start zero digits = fold_grows start digits
take_grows start (suc i) [] = omega arith
take_grows start (suc i) (b ∷ digits) = take_grows (start * 10 + (b - 0x30)) i digits

-- the number of the first digits is not above that of all
pub digits_number-take : (i : ℕ) (digits : List ℕ) → digits_number (take i digits) ≤ digits_number digits
digits_number-take i digits = take_grows 0 i digits
