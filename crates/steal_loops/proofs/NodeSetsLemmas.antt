-- The bits of what two sets of nodes have in common.
use Rattle.std.proofs.Common.{◌≡◌, ℕ, arith, bit_and}
use Rattle.std.specs.Int.{bit_at}
use Rattle.std.proofs.lemmas.Nat.Bits.{bit_at_and, bit_at-lt}

-- a bit of it is one of both
pub both_bits : (a b n : ℕ) → bit_at (bit_and a b) n ≡ 1 → (bit_at a n ≡ 1) × (bit_at b n ≡ 1)
both_bits a b n up = let at = bit_at_and a b n in let x = bit_at-lt a n in let y = bit_at-lt b n in
    (omega (arith, at, up, x, y), omega (arith, at, up, x, y))

-- and where it is none, it is none of the first, where it is one of the second
pub no_bit : (a b n : ℕ) → bit_at (bit_and a b) n ≡ 0 → bit_at b n ≡ 1 → bit_at a n ≡ 0
no_bit a b n none up = let at = bit_at_and a b n in let x = bit_at-lt a n in omega (arith, at, none, up, x)
