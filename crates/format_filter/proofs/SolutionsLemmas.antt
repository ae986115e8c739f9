-- The extended Euclid's way back: the solutions of a congruence from those of the lesser one.
use Rattle.std.proofs.Common.{◌≡◌, ℕ, zero, suc, ◌+◌, ◌*◌, ◌-◌, ◌/◌, ◌%◌, ◌<◌, ◌≤◌, ◌⊎◌, inl, inr, sym, ap}
use Rattle.std.proofs.Common.{◌∙◌, arith}
use Rattle.std.proofs.Math.Nat.{add-mul-mod_self_right, mul-mod_left, mul-le-mul_right, mul-le-mul_left, lt_of_mul-lt-mul_right}
use Rattle.std.proofs.Math.Nat.{le_of_mul-le-mul_right, add_comm}
use Rattle.std.proofs.lemmas.Nat.{div-add-mod', mul-mod_second, mod-mul-add, mod_below}
use Rattle.format_filter.specs.declared.progression.Solutions.{Solutions}
use Rattle.format_filter.specs.working.Progression.{AreSolutions}

-- n with the rest r is r and some times t
pub rest_is : (n t r : ℕ) → n % t ≡ r → n ≡ r + (n / t) * t
rest_is n t r e = omega (arith, div-add-mod' n t)

pub rest_of : (t r j : ℕ) → r < t → (r + j * t) % t ≡ r
rest_of t r j h = ap (λ x. x % t) (add_comm r (j * t)) ∙ mod-mul-add j t r h

pub whole_is : (n s : ℕ) → n % s ≡ 0 → (n / s) * s ≡ n
whole_is n s e = omega (arith, div-add-mod' n s)

-- what has to be added to n to reach a multiple
pub complement_whole : (n s m : ℕ) → 0 < s → n % s ≡ 0 → m % s ≡ 0 → (n + m) % s ≡ 0
complement_whole n s m z e h =
    let whole : n + m ≡ (n / s + m / s) * s = omega (arith, whole_is n s e, whole_is m s h) in
    ap (λ x. x % s) whole ∙ mul-mod_left (n / s + m / s) s

pub complement_rest : (n s m : ℕ) → 0 < s → m % s ≡ s - n % s → 0 < n % s → (n + m) % s ≡ 0
complement_rest n s m z h q =
    let whole : n + m ≡ (n / s + m / s + 1) * s = omega (arith, div-add-mod' n s, div-add-mod' m s, mod_below n s z) in
    ap (λ x. x % s) whole ∙ mul-mod_left (n / s + m / s + 1) s

-- a rest and its complement below s
small_multiple : (e s q m : ℕ) → e * s ≡ q + m → q < s → m < s → (q ≡ 0) × (m ≡ 0) ⊎ (q + m ≡ s)
small_multiple zero s q m h a b = inl (omega arith, omega arith)
small_multiple (suc zero) s q m h a b = inr (omega arith)
small_multiple (suc (suc e)) s q m h a b = absurd (omega arith)

pub complement_only : (n s m : ℕ) → 0 < s → (n + m) % s ≡ 0 → ((n % s ≡ 0) × (m % s ≡ 0)) ⊎ (n % s + m % s ≡ s)
complement_only n s m z h =
    let low : n / s + m / s ≤ (n + m) / s = le_of_mul-le-mul_right {k = s}
    (omega (arith, whole_is (n + m) s h, div-add-mod' n s, div-add-mod' m s)) z in
    let e = (n + m) / s - (n / s + m / s) in
    let sum : (n + m) / s ≡ e + (n / s + m / s) = omega arith in
    let parts : e * s ≡ n % s + m % s = omega (arith, ap (λ x. x * s) sum, whole_is (n + m) s h, div-add-mod' n s, div-add-mod' m s) in
    small_multiple e s (n % s) (m % s) parts (mod_below n s z) (mod_below m s z)

whole_rest : (s x y : ℕ) → 0 < s → x % s ≡ 0 → (x + y) % s ≡ 0 → y % s ≡ 0
whole_rest s x y z h k =
    let turned : y + (x / s) * s ≡ x + y = omega (arith, whole_is x s h) in
    sym (add-mul-mod_self_right y (x / s) s) ∙ ap (λ v. v % s) turned ∙ k

cancel : (s a b : ℕ) → 0 < s → a * s ≡ b * s → a ≡ b
cancel s a b z h =
    let up : a ≤ b = le_of_mul-le-mul_right {k = s} (omega arith) z in
    let down : b ≤ a = le_of_mul-le-mul_right {k = s} (omega arith) z in
    omega arith

module _ (s t r c step : ℕ) (turned : Solutions) (z : 0 < s) (l : r < t) (e : s ≡ step % t) (less : AreSolutions t s c turned)
    (whole : (m : ℕ) → m % s ≡ c → (r + m) % s ≡ 0) (only : (m : ℕ) → (r + m) % s ≡ 0 → m % s ≡ c) where
  at : (i : ℕ) → (r + (turned.first + i * turned.period) * t) % s ≡ 0
  at i = whole ((turned.first + i * turned.period) * t) (less.each i)

  at_first : (r + turned.first * t) % s ≡ 0
  at_first =
      let same : r + (turned.first + 0 * turned.period) * t ≡ r + turned.first * t = omega arith in
      ap (λ v. v % s) (sym same) ∙ at 0

  pub first_is : ((r + turned.first * t) / s) * s ≡ r + turned.first * t
  first_is = whole_is (r + turned.first * t) s at_first

  at_period : (turned.period * t) % s ≡ 0
  at_period =
      let same : (r + turned.first * t) + turned.period * t ≡ r + (turned.first + 1 * turned.period) * t = omega arith in
      whole_rest s (r + turned.first * t) (turned.period * t) z at_first (ap (λ v. v % s) same ∙ at 1)

  pub period_is : ((turned.period * t) / s) * s ≡ turned.period * t
  period_is = whole_is (turned.period * t) s at_period

  multiple : (k : ℕ) → (k * s) % t ≡ (k * step) % t
  multiple k = ap (λ v. (k * v) % t) e ∙ mul-mod_second k step t

  pub turned_back : (first period : ℕ) → first ≡ (r + turned.first * t) / s → period ≡ (turned.period * t) / s
      → AreSolutions step t r (record { first = first; period = period })
  turned_back first period f p =
      let first_s : first * s ≡ r + turned.first * t = ap (λ v. v * s) f ∙ first_is in
      let period_s : period * s ≡ turned.period * t = ap (λ v. v * s) p ∙ period_is in
      let times : (i : ℕ) → (first + i * period) * s ≡ r + (turned.first + i * turned.period) * t =
      λ i. omega (arith, first_s, ap (λ v. i * v) period_s) in
      let room : (turned.first + 1) * t ≤ turned.period * t = mul-le-mul_right t (omega (arith, less.order)) in
      record {
        order = lt_of_mul-lt-mul_right s (omega (arith, first_s, period_s, room));
        bound = le_of_mul-le-mul_right {k = s} (omega (arith, period_s, mul-le-mul_right t less.bound)) z;
        only = λ k h.
            let j = (k * s) / t in
            let k_is : k * s ≡ r + j * t = rest_is (k * s) t r (multiple k ∙ h) in
            let found = less.only j (only (j * t) (ap (λ v. v % s) (sym k_is) ∙ mul-mod_left k s)) in
            let same : k * s ≡ (first + found.0 * period) * s = k_is ∙ ap (λ v. r + v * t) found.1 ∙ sym (times found.0) in
            (found.0, cancel s k (first + found.0 * period) z same);
        each = λ i. sym (multiple (first + i * period)) ∙ ap (λ v. v % t) (times i) ∙ rest_of t r (turned.first + i * turned.period) l;
      }

module _ (s t r c step : ℕ) (e : s ≡ step % t) where
  -- where the lesser congruence has no solution there is none
  pub none_turned : (only : (m : ℕ) → (r + m) % s ≡ 0 → m % s ≡ c) (none : (j : ℕ) → (j * t) % s ≡ c → ⊥) (k : ℕ) → (k * step) % t ≡ r
      → ⊥
  none_turned only none k h =
      let j = (k * s) / t in
      let lesser : (k * s) % t ≡ r = ap (λ v. (k * v) % t) e ∙ mul-mod_second k step t ∙ h in
      let k_is : k * s ≡ r + j * t = rest_is (k * s) t r lesser in
      none j (only (j * t) (ap (λ v. v % s) (sym k_is) ∙ mul-mod_left k s))

-- a step that is a multiple itself
multiple_step : (t step k : ℕ) → 0 < t → step % t ≡ 0 → (k * step) % t ≡ 0
multiple_step t step k z e =
    let no_rest : (k * (step % t)) % t ≡ 0 = let nothing : k * (step % t) ≡ 0 * t = ap (λ v. k * v) e ∙ omega arith in
    ap (λ v. v % t) nothing ∙ mul-mod_left 0 t in
    sym (mul-mod_second k step t) ∙ no_rest

pub all_solve : (t step : ℕ) → 0 < t → step % t ≡ 0 → AreSolutions step t 0 (record { first = 0; period = 1 })
all_solve t step z e = record {
  order = omega arith;
  bound = omega arith;
  only = λ k h. (k, omega arith);
  each = λ i. multiple_step t step (0 + i * 1) z e;
}

pub none_solves : (t step r k : ℕ) → 0 < t → step % t ≡ 0 → (r ≡ 0 → ⊥) → (k * step) % t ≡ r → ⊥
none_solves t step r k z e other h = other (sym h ∙ multiple_step t step k z e)

pub period_room : (s t p : ℕ) → 0 < s → t < 18446744073709551616 → p ≤ s → p * t < s * 18446744073709551616
period_room s t p z l h =
    let less : p * t ≤ s * t = mul-le-mul_right t h in
    let more : s * t ≤ s * 18446744073709551615 = mul-le-mul_left s (omega arith) in
    omega arith
