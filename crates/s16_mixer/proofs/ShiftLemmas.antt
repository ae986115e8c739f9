-- A signed number that is shifted right still fits.
use Rattle.std.proofs.Common.{ℕ, ℤ, arith, w32, SFits}
use lib.Signed.{shr_z, mag_shr}

pub SFits-shr_z : (z : ℤ) (m : ℕ) → SFits w32 z → SFits w32 (shr_z z m)
SFits-shr_z z m h = record { sfits = omega (arith, mag_shr z m, h.sfits) }
