-- Laws of `specs/Bits.antt`: the bits of sets of nodes.
use Rattle.std.proofs.Common.{◌≡◌, ◌≢◌, ℕ, zero, suc, ◌^◌, ◌<◌, ◌↔◌, Bool, true, false, cond, eqb, List, [], ◌∷◌, max, length, get_or, refl, sym, ap, ◌∙◌}
use Rattle.std.proofs.Common.{subst, arith, eqb-true}
use Rattle.std.proofs.lemmas.Bool.{eqb-false}
use mathlib.Core.Logic.{dite}
use native.Mathlib.Decide.{ℕ_discrete}
use Rattle.std.specs.Prelude.{Contains, IsBitSet}
use Rattle.std.specs.Int.{bit_at}
use Rattle.std.proofs.lemmas.Nat.{bit_set_by_shift}
use Rattle.std.proofs.lemmas.Nat.Bits.{shr_and_one, bit_at_or, bit_at-zero, bit_at-lt, bit_at-pow_same, bit_at-pow_other}
use Rattle.board_rule.specs.declared.view.Found.{Found}
use Rattle.board_rule.specs.events.Bits.{with_bit, woke_of}

-- a bit as a number
bit_of : (set n : ℕ) → IsBitSet set n → bit_at set n ≡ 1
bit_of set n h = sym (shr_and_one set n) ∙ (bit_set_by_shift set n).1 h

of_bit : (set n : ℕ) → bit_at set n ≡ 1 → IsBitSet set n
of_bit set n e = (bit_set_by_shift set n).0 (shr_and_one set n ∙ e)

pub no_bit : (n : ℕ) → IsBitSet 0 n → ⊥
no_bit n h = let e = bit_of 0 n h in let z = bit_at-zero n in absurd (omega arith)

-- a set with one bit more has that bit and the bits that it had
pub here_bit : (set k : ℕ) → IsBitSet (with_bit set k) k
here_bit set k = let e = bit_at_or set (2 ^ k) k in let one = bit_at-pow_same k in let low = bit_at-lt set k in
    of_bit (with_bit set k) k (e ∙ ap (λ b. max (bit_at set k) b) one ∙ (omega arith))

pub kept_bit : (set k n : ℕ) → IsBitSet set n → IsBitSet (with_bit set k) n
kept_bit set k n h = let e = bit_at_or set (2 ^ k) n in let low = bit_at-lt (2 ^ k) n in let one = bit_of set n h in
    of_bit (with_bit set k) n (e ∙ (omega arith))

pub other_bit : (set k n : ℕ) → n ≢ k → IsBitSet (with_bit set k) n → IsBitSet set n
other_bit set k n o h = let e = bit_at_or set (2 ^ k) n in let z = bit_at-pow_other k n o in
    let one = bit_of (with_bit set k) n h in of_bit set n (omega arith)

abbrev pub at_one : ℕ → Found
at_one n = record { node = n; word = 1 }

-- a node is woken exactly where its word was found at 1
pub woke_bits : (fs : List Found) (n : ℕ) → IsBitSet (woke_of fs) n ↔ Contains fs (at_one n)
woke_bits [] n = (λ h. absurd (no_bit n h), λ c. let z : c.0 < 0 = c.1 in absurd (omega arith))
woke_bits (f ∷ fs) n = by (eqb f.word 1) refl (woke_bits fs n)
  where
    later : Contains fs (at_one n) → Contains (f ∷ fs) (at_one n)
    later c = (suc c.0, omega arith, c.2)

    by : (b : Bool) → eqb f.word 1 ≡ b → IsBitSet (woke_of fs) n ↔ Contains fs (at_one n)
        → IsBitSet (cond b (with_bit (woke_of fs) f.node) (woke_of fs)) n ↔ Contains (f ∷ fs) (at_one n)
    by true e rest = (
      λ h. dite (ℕ_discrete n f.node)
          (λ q. (0, omega arith, λ j. record { node = sym q j; word = eqb-true f.word 1 e j }))
          (λ q. later (rest.0 (other_bit (woke_of fs) f.node n q h))),
      λ c. found c.0 c.1 c.2,
    )
      where
        found : (k : ℕ) → k < length (f ∷ fs) → get_or (f ∷ fs) k (at_one n) ≡ at_one n
            → IsBitSet (with_bit (woke_of fs) f.node) n
        found zero l is = subst (λ m. IsBitSet (with_bit (woke_of fs) f.node) m) (ap (λ (g : Found). g.node) is) (here_bit (woke_of fs) f.node)
        found (suc k) l is = kept_bit (woke_of fs) f.node n (rest.1 (k, omega arith, is))
    by false e rest = (λ h. later (rest.0 h), λ c. found c.0 c.1 c.2)
      where
        found : (k : ℕ) → k < length (f ∷ fs) → get_or (f ∷ fs) k (at_one n) ≡ at_one n → IsBitSet (woke_of fs) n
        found zero l is = absurd (eqb-false f.word 1 e (ap (λ (g : Found). g.word) is))
        found (suc k) l is = rest.1 (k, omega arith, is)
