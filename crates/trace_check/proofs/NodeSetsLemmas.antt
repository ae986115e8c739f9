-- Laws of `specs/working/NodeSets.antt`: what the operations on words do to sets.
use Rattle.std.proofs.Common.{◌≡◌, ℕ, ◌*◌, ◌%◌, ◌^◌, ◌<◌, ◌≤◌, ◌↔◌, inl, inr, sym, ap, ◌∙◌, subst, arith, w64, bit_and, bit_or}
use mathlib.Core.Logic.{dite}
use native.Mathlib.Decide.{ℕ_discrete}
use Rattle.std.specs.Prelude.{IsBitSet}
use Rattle.std.specs.Int.{bit_at, bit_not, trailing_zeros}
use Rattle.std.proofs.lemmas.Bool.{cases_lt}
use Rattle.std.proofs.lemmas.Nat.{bit_set_by_shift, and_le_l}
use Rattle.std.proofs.lemmas.Nat.Bits.{shr_and_one, bit_at-zero, bit_at_and, bit_at_not, bit_at-lt, bit_at_above, same_from_bits}
use Rattle.std.proofs.lemmas.Nat.Bits.{bit_at_set_same, bit_at_set_other, bit_at_clear_same, bit_at_clear_other, bit_at-trailing_zeros}
use Rattle.trace_check.specs.working.NodeSets.{IsWithin, AreApart, Gains, Loses, IsDifference, IsFirstOutside}

-- a bit as a number
pub bit_of : (n k : ℕ) → IsBitSet n k → bit_at n k ≡ 1
bit_of n k h = sym (shr_and_one n k) ∙ (bit_set_by_shift n k).1 h

pub of_bit : (n k : ℕ) → bit_at n k ≡ 1 → IsBitSet n k
of_bit n k e = (bit_set_by_shift n k).0 (shr_and_one n k ∙ e)

pub none_set : (k : ℕ) → ¬ IsBitSet 0 k
none_set k h = let e = sym (bit_at-zero k) ∙ bit_of 0 k h in absurd (omega arith)

pub gains : (set node : ℕ) → node < 64 → Gains set node (bit_or set (1 * 2 ^ node % 2 ^ 64))
gains set node lt n small = dite (ℕ_discrete n node)
    (λ e. (λ h. inr e, λ h. of_bit _ n (subst (λ i. bit_at (bit_or set (1 * 2 ^ node % 2 ^ 64)) i ≡ 1) (sym e) (bit_at_set_same w64 set node lt))))
    (λ ne. let same = bit_at_set_other w64 set node lt n ne in (
      λ h. inl (of_bit set n (sym same ∙ bit_of _ n h)),
      λ h. elim h [ inl old ↦ of_bit _ n (same ∙ bit_of set n old) | inr e ↦ absurd (ne e) ],
    ))

pub loses : (set node : ℕ) → node < 64 → Loses set node (bit_and set (bit_not w64 (1 * 2 ^ node % 2 ^ 64)))
loses set node lt n small = dite (ℕ_discrete n node)
    (λ e. (
      λ h. let one = bit_of _ n h in
          let zero = subst (λ i. bit_at (bit_and set (bit_not w64 (1 * 2 ^ node % 2 ^ 64))) i ≡ 0) (sym e) (bit_at_clear_same w64 set node lt) in
          absurd (omega arith),
      λ h. absurd (h.1 e),
    ))
    (λ ne. let same = bit_at_clear_other w64 set node lt n small ne in (
      λ h. (of_bit set n (sym same ∙ bit_of _ n h), ne),
      λ h. of_bit _ n (same ∙ bit_of set n h.0),
    ))

-- of two bits the lesser
common_bit : (a b i : ℕ) → bit_at (bit_and a b) i ≡ 0 → bit_at a i ≡ 1 → bit_at b i ≡ 0
common_bit a b i none one = let e = bit_at_and a b i in omega arith

no_common_bit : (a b i : ℕ) → (bit_at a i ≡ 1 → bit_at b i ≡ 0) → bit_at (bit_and a b) i ≡ 0
no_common_bit a b i h = let e = bit_at_and a b i in let small = bit_at-lt a i in dite (ℕ_discrete (bit_at a i) 1)
    (λ one. let z = h one in omega arith) (λ ne. omega arith)

high_bit : (a b i : ℕ) → a < 2 ^ 64 → 64 ≤ i → bit_at (bit_and a b) i ≡ 0
high_bit a b i fits high = let e = bit_at_and a b i in let z = bit_at_above a 64 i fits high in omega arith

pub within : (a b : ℕ) → a < 2 ^ 64 → b < 2 ^ 64 → (bit_and a (bit_not w64 b) ≡ 0) ↔ IsWithin a b
within a b fa fb = (
  λ e n lt h. let none : bit_at (bit_and a (bit_not w64 b)) n ≡ 0 = ap (λ x. bit_at x n) e ∙ bit_at-zero n in
      let zero = common_bit a (bit_not w64 b) n none (bit_of a n h) in
      let is = bit_at_not w64 b n fb lt in let small = bit_at-lt b n in of_bit b n (omega arith),
  λ h. same_from_bits (bit_and a (bit_not w64 b)) 0 (λ i. elim (cases_lt i 64) [
    | inl lt ↦ no_common_bit a (bit_not w64 b) i (λ one. let is = bit_at_not w64 b i fb lt in
        let set = bit_of b i (h i lt (of_bit a i one)) in omega arith) ∙ sym (bit_at-zero i)
    | inr ge ↦ high_bit a (bit_not w64 b) i fa ge ∙ sym (bit_at-zero i)
  ]),
)

pub apart : (a b : ℕ) → a < 2 ^ 64 → (bit_and a b ≡ 0) ↔ AreApart a b
apart a b fa = (
  λ e n lt h g. let none : bit_at (bit_and a b) n ≡ 0 = ap (λ x. bit_at x n) e ∙ bit_at-zero n in
      let zero = common_bit a b n none (bit_of a n h) in let one = bit_of b n g in absurd (omega arith),
  λ h. same_from_bits (bit_and a b) 0 (λ i. elim (cases_lt i 64) [
    | inl lt ↦ no_common_bit a b i (λ one. let small = bit_at-lt b i in dite (ℕ_discrete (bit_at b i) 1)
        (λ two. absurd (h i lt (of_bit a i one) (of_bit b i two))) (λ ne. omega arith)) ∙ sym (bit_at-zero i)
    | inr ge ↦ high_bit a b i fa ge ∙ sym (bit_at-zero i)
  ]),
)

pub difference_of : (a b : ℕ) → b < 2 ^ 64 → IsDifference a b (bit_and a (bit_not w64 b))
difference_of a b fb n lt =
    let e = bit_at_and a (bit_not w64 b) n in let is = bit_at_not w64 b n fb lt in let small = bit_at-lt b n in (
      λ h. let both = bit_of _ n h in (of_bit a n (omega arith), λ g. let one = bit_of b n g in absurd (omega arith)),
      λ h. let one = bit_of a n h.0 in dite (ℕ_discrete (bit_at b n) 1) (λ two. absurd (h.1 (of_bit b n two))) (λ ne. of_bit _ n (omega arith)),
    )

pub first_outside_of : (a b : ℕ) → a < 2 ^ 64 → b < 2 ^ 64 → ¬ IsWithin a b → IsFirstOutside a b (trailing_zeros w64 (bit_and a (bit_not w64 b)))
first_outside_of a b fa fb more =
    let x : ℕ = bit_and a (bit_not w64 b) in
    let some : 0 < x = dite (ℕ_discrete x 0) (λ z. absurd (more ((within a b fa fb).0 z))) (λ ne. omega arith) in
    let fits : x < 2 ^ 64 = (let le = and_le_l a (bit_not w64 b) in omega arith) in
    let t = bit_at-trailing_zeros w64 x some fits in
    let here = (difference_of a b fb (trailing_zeros w64 x) t.0).0 (of_bit x (trailing_zeros w64 x) t.1) in
    record {
      small = t.0;
      inside = here.0;
      outside = here.1;
      first = λ m lt h. dite (ℕ_discrete (bit_at b m) 1) (of_bit b m)
          (λ ne. let one = bit_of x m ((difference_of a b fb m (omega (arith, t.0))).1 (h, λ g. ne (bit_of b m g))) in
          let zero = t.2 m lt in absurd (omega arith));
    }
