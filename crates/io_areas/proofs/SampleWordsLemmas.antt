-- A word gives its four samples back, and a block that is read word by word gives its quantum.
use Rattle.std.proofs.Common.{◌≡◌, ℕ, ℤ, zero, suc, ◌+◌, ◌*◌, ◌<◌, ⊎_elim, List, length, get_or, set, refl, sym, ap, ◌∙◌, subst}
use Rattle.std.proofs.Common.{arith, length-set, get_or-set_same, get_or-set_other}
use Rattle.std.specs.Prelude.{pos, neg_ℤ, ◌≤ℤ◌, All}
use Rattle.std.specs.Int.{w16, cast_signed, cast_unsigned}
use Rattle.std.proofs.lemmas.Int.{ints}
use Rattle.std.proofs.lemmas.List.{get_or_past}
use Rattle.std.proofs.lemmas.Bool.{cases_lt}
use Rattle.board_rule.specs.buffers.SampleWords.{bits_at, packed}
use Rattle.io_areas.specs.working.Unpacking.{sample_in, spread}

-- a sample of 16 bits, also past the end of a list of such
abbrev pub IsShort : ℤ → Type 0
IsShort s = (neg_ℤ (pos 32768) ≤ℤ s) × (s ≤ℤ pos 32767)

pub short_at : (xs : List ℤ) (j : ℕ) → All IsShort xs → IsShort (get_or xs j (pos 0))
short_at xs j h = ⊎_elim (λ l. h j (pos 0) l) (λ r. subst IsShort (sym (get_or_past xs j (pos 0) r))
    (omega (arith, ints), omega (arith, ints))) (cases_lt j (length xs))

short_bits : (z : ℤ) → IsShort z → cast_unsigned w16 z < 65536
short_bits z h = let low = h.0 in let high = h.1 in omega (arith, ints)

back : (z : ℤ) → IsShort z → cast_signed w16 (cast_unsigned w16 z) ≡ z
back z h = let low = h.0 in let high = h.1 in omega (arith, ints)

-- the first n samples of ys are those of xs
abbrev pub IsReadTo : List ℤ → ℕ → List ℤ → Type 0
IsReadTo xs n ys = (j : ℕ) → j < n → j < length ys → get_or ys j (pos 0) ≡ get_or xs j (pos 0)

module _ (xs : List ℤ) (fits : All IsShort xs) where
  bits_below : (j : ℕ) → bits_at xs j < 65536
  bits_below j = short_bits (get_or xs j (pos 0)) (short_at xs j fits)

  here : (n j : ℕ) → n ≡ bits_at xs j → cast_signed w16 n ≡ get_or xs j (pos 0)
  here n j e = ap (cast_signed w16) e ∙ back (get_or xs j (pos 0)) (short_at xs j fits)

  pub sample_of : (i k : ℕ) → k < 4 → sample_in (packed xs i) k ≡ get_or xs (4 * i + k) (pos 0)
  sample_of i zero l = let a = bits_below (4 * i) in here _ (4 * i) (omega arith)
      ∙ ap (λ j. get_or xs j (pos 0)) (let e : 4 * i ≡ 4 * i + 0 = omega arith in e)
  sample_of i (suc zero) l = let a = bits_below (4 * i) in let b = bits_below (4 * i + 1) in here _ (4 * i + 1) (omega arith)
  sample_of i (suc (suc zero)) l = let a = bits_below (4 * i) in let b = bits_below (4 * i + 1) in let c = bits_below (4 * i + 2) in
      here _ (4 * i + 2) (omega arith)
  sample_of i (suc (suc (suc zero))) l = let a = bits_below (4 * i) in let b = bits_below (4 * i + 1) in let c = bits_below (4 * i + 2) in
      let d = bits_below (4 * i + 3) in here _ (4 * i + 3) (omega arith)
  sample_of i (suc (suc (suc (suc k)))) l = absurd (omega arith)

  put_more : (ys : List ℤ) (m n : ℕ) (z : ℤ) → m ≡ n + 1 → z ≡ get_or xs n (pos 0) → IsReadTo xs n ys → IsReadTo xs m (set ys n z)
  put_more ys m n z one e h j l inside = let long = length-set ys n z in
      ⊎_elim (λ below. get_or-set_other ys n j z (pos 0) (omega arith) ∙ h j below (omega arith))
      (λ at. let is : j ≡ n = omega arith in ap (λ k. get_or (set ys n z) k (pos 0)) is ∙ get_or-set_same ys n z (pos 0) (omega arith) ∙ e
      ∙ ap (λ k. get_or xs k (pos 0)) (sym is))
      (cases_lt j n)

  pub length-spread : (ys : List ℤ) (at word : ℕ) → length (spread ys at word) ≡ length ys
  length-spread ys at word = length-set _ (at + 3) (sample_in word 3) ∙ length-set _ (at + 2) (sample_in word 2)
      ∙ length-set _ (at + 1) (sample_in word 1) ∙ length-set ys at (sample_in word 0)

  pub spread_more : (ys : List ℤ) (i word : ℕ) → word ≡ packed xs i → IsReadTo xs (4 * i) ys
      → IsReadTo xs (4 * (i + 1)) (spread ys (4 * i) word)
  spread_more ys i word e h =
      put_more _ (4 * (i + 1)) (4 * i + 3) (sample_in word 3) (omega arith) (sample 3 (omega arith))
      (put_more _ (4 * i + 3) (4 * i + 2) (sample_in word 2) (omega arith) (sample 2 (omega arith))
      (put_more _ (4 * i + 2) (4 * i + 1) (sample_in word 1) (omega arith) (sample 1 (omega arith))
      (put_more ys (4 * i + 1) (4 * i) (sample_in word 0) refl
      (sample 0 (omega arith) ∙ ap (λ j. get_or xs j (pos 0)) (let z : 4 * i + 0 ≡ 4 * i = omega arith in z)) h)))
    where
      sample : (k : ℕ) → k < 4 → sample_in word k ≡ get_or xs (4 * i + k) (pos 0)
      sample k l = ap (λ w. sample_in w k) e ∙ sample_of i k l
