-- The least node of a set, and a set without one of its nodes.
use Rattle.std.proofs.Common.{◌≡◌, ℕ, ◌<◌, ◌≤◌, ◌^◌, ◌*◌, ◌%◌, sym, ap, ◌∙◌, arith, w64, bit_and}
use Rattle.std.specs.Int.{bit_at, bit_not, trailing_zeros}
use Rattle.std.specs.Int.Count.{trailing_of_zero}
use Rattle.std.proofs.lemmas.Nat.{and_le_l}
use Rattle.std.proofs.lemmas.Nat.Bits.{bit_at-trailing_zeros, bit_at-zero, bit_at_clear_same}
use mathlib.Core.Logic.{dite}
use native.Mathlib.Decide.{ℕ_discrete}

pub lowest_some : (set end : ℕ) → set < 2 ^ 64 → end ≤ 64 → trailing_zeros w64 set < end
    → (trailing_zeros w64 set < end) × (bit_at set (trailing_zeros w64 set) ≡ 1) × ((x : ℕ) → x < trailing_zeros w64 set → bit_at set x ≡ 0)
lowest_some set end fits few low = dite (ℕ_discrete set 0)
    (λ (e : set ≡ 0). let z : trailing_zeros w64 set ≡ 64 = ap (trailing_zeros w64) e ∙ trailing_of_zero 64 in absurd (omega arith))
    (λ ne. let t = bit_at-trailing_zeros w64 set (omega arith) fits in (low, t.1, t.2))

pub lowest_none : (set end : ℕ) → set < 2 ^ 64 → end ≤ trailing_zeros w64 set → (x : ℕ) → x < end → bit_at set x ≡ 0
lowest_none set end fits high x low = dite (ℕ_discrete set 0)
    (λ (e : set ≡ 0). ap (λ n. bit_at n x) e ∙ bit_at-zero x)
    (λ ne. let t = bit_at-trailing_zeros w64 set (omega arith) fits in t.2 x (omega arith))

pub cleared_less : (set node : ℕ) → node < 64 → bit_at set node ≡ 1 → bit_and set (bit_not w64 (1 * 2 ^ node % 2 ^ 64)) < set
cleared_less set node low there = let most = and_le_l set (bit_not w64 (1 * 2 ^ node % 2 ^ 64)) in
    dite (ℕ_discrete (bit_and set (bit_not w64 (1 * 2 ^ node % 2 ^ 64))) set)
    (λ (e : bit_and set (bit_not w64 (1 * 2 ^ node % 2 ^ 64)) ≡ set). let z = sym (ap (λ n. bit_at n node) e) ∙ bit_at_clear_same w64 set node low in absurd (omega arith))
    (λ ne. omega arith)
