-- What two rows have in common: their numbers as ways up from the later beginning.
use Rattle.std.proofs.Common.{◌≡◌, ℕ, ℤ, pos, ◌+◌, ◌*◌, ◌/◌, ◌%◌, ◌+ℤ◌, ◌*ℤ◌, ◌<ℤ◌, ◌≤ℤ◌, sym, ap}
use Rattle.std.proofs.Common.{◌∙◌, arith}
use Rattle.std.proofs.lemmas.Int.{ints}
use Rattle.std.proofs.Math.Nat.{mul-mod_left}
use Rattle.format_filter.specs.declared.progression.Row.{Row}
use Rattle.format_filter.specs.declared.progression.Numbers.{Numbers}
use Rattle.format_filter.specs.declared.progression.Numbers.TheVariants.{Nothing}
use Rattle.format_filter.specs.declared.progression.Solutions.{Solutions}
use Rattle.format_filter.specs.working.Progression.{AreSolutions, IsIn, AreInBoth, AreFrom}
use Rattle.format_filter.proofs.SolutionsLemmas.{whole_is}

-- the numbers of a row are its beginning and a multiple of its step
times : (step : ℤ) (s k : ℕ) → step ≡ pos s → pos k *ℤ step ≡ pos (k * s)
times step s k e = ap (λ (v : ℤ). pos k *ℤ v) e

module _ (late early : Row) (s t d : ℕ) (high : ℤ) (s_is : late.step ≡ pos s) (t_is : early.step ≡ pos t)
    (d_is : late.min ≡ early.min +ℤ pos d) (most : high ≤ℤ late.max) (other_most : high ≤ℤ early.max)
    (least : (n : ℤ) → n ≤ℤ late.max → n ≤ℤ early.max → n ≤ℤ high) where
  in_both : (n : ℤ) → IsIn late n → IsIn early n → (k : ℕ) × (n ≡ late.min +ℤ pos (k * s)) × ((d + k * s) % t ≡ 0) × (n ≤ℤ high)
  in_both n a b =
      let k = a.0.0 in
      let m = b.0.0 in
      let k_is : n ≡ late.min +ℤ pos (k * s) = a.0.1 ∙ ap (λ (v : ℤ). late.min +ℤ v) (times late.step s k s_is) in
      let m_is : n ≡ early.min +ℤ pos (m * t) = b.0.1 ∙ ap (λ (v : ℤ). early.min +ℤ v) (times early.step t m t_is) in
      let same : d + k * s ≡ m * t = omega (arith, ints) in
      (k, k_is, ap (λ v. v % t) same ∙ mul-mod_left m t, least n a.1 b.1)

  both_in : (n : ℤ) (k : ℕ) → n ≡ late.min +ℤ pos (k * s) → (d + k * s) % t ≡ 0 → n ≤ℤ high → IsIn late n × IsIn early n
  both_in n k k_is whole u =
      let m = (d + k * s) / t in
      let same : m * t ≡ d + k * s = whole_is (d + k * s) t whole in
      let in_late : n ≡ late.min +ℤ (pos k *ℤ late.step) = k_is ∙ ap (λ (v : ℤ). late.min +ℤ v) (sym (times late.step s k s_is)) in
      let m_is : n ≡ early.min +ℤ pos (m * t) = omega (arith, ints) in
      let in_early : n ≡ early.min +ℤ (pos m *ℤ early.step) = m_is ∙ ap (λ (v : ℤ). early.min +ℤ v) (sym (times early.step t m t_is)) in
      (((k, in_late), omega (arith, ints)), ((m, in_early), omega (arith, ints)))

  pub in_both_from : (low : ℤ) (rest first period : ℕ) (found : Solutions) (numbers : Numbers) → low ≡ late.min → first ≡ found.first * s
      → period ≡ found.period * s → AreSolutions s t rest found
      → ((m : ℕ) → m % t ≡ rest → (d + m) % t ≡ 0) → ((m : ℕ) → (d + m) % t ≡ 0 → m % t ≡ rest)
      → AreFrom low high first period numbers → AreInBoth late early numbers
  in_both_from low rest first period found numbers low_is first_is period_is solved whole only from =
      let way : (i : ℕ) → first + i * period ≡ (found.first + i * found.period) * s =
      λ i. omega (arith, first_is, ap (λ v. i * v) period_is) in
      record {
        only = λ n h.
            let i = (from.only n h).0.0 in
            let k = found.first + i * found.period in
            let k_is : n ≡ late.min +ℤ pos (k * s) = (from.only n h).0.1 ∙ ap (λ (v : ℤ). v +ℤ pos (first + i * period)) low_is
            ∙ ap (λ (v : ℕ). late.min +ℤ pos v) (way i) in
            both_in n k k_is (whole (k * s) (solved.each i)) (from.only n h).1;
        all = λ n a b.
            let both = in_both n a b in
            let index = solved.only both.0 (only (both.0 * s) both.2) in
            let is : n ≡ low +ℤ pos (first + index.0 * period) = both.1
            ∙ ap (λ (v : ℕ). late.min +ℤ pos v) (ap (λ v. v * s) index.1 ∙ sym (way index.0))
            ∙ ap (λ (v : ℤ). v +ℤ pos (first + index.0 * period)) (sym low_is) in
            from.all n index.0 is both.3;
        ordered = from.ordered;
      }

  pub none_in_both : (rest : ℕ) → ((m : ℕ) → (d + m) % t ≡ 0 → m % t ≡ rest) → ((k : ℕ) → (k * s) % t ≡ rest → ⊥)
      → AreInBoth late early Nothing
  none_in_both rest only none = record {
    only = λ n h. absurd h;
    all = λ n a b. let both = in_both n a b in none both.0 (only (both.0 * s) both.2);
    ordered = tt;
  }

  pub apart : high <ℤ late.min → AreInBoth late early Nothing
  apart l = record {
    only = λ n h. absurd h;
    all = λ n a b. let both = in_both n a b in omega (arith, ints, both.1, both.3);
    ordered = tt;
  }

-- the order of the two is free
pub turned : (a b : Row) (numbers : Numbers) → AreInBoth b a numbers → AreInBoth a b numbers
turned a b numbers h = record {
  only = λ n w. ((h.only n w).1, (h.only n w).0);
  all = λ n x y. h.all n y x;
  ordered = h.ordered;
}
