-- The numbers from low + first in steps of a period, by how many there are.
use Rattle.std.proofs.Common.{◌≡◌, ℕ, ℤ, pos, suc, zero, ◌+◌, ◌*◌, ◌-◌, ◌/◌, ◌<◌, ◌≤◌, ◌+ℤ◌, ◌*ℤ◌, ◌≤ℤ◌}
use Rattle.std.proofs.Common.{◌⊎◌, inl, inr, sym, ap, ◌∙◌, arith}
use Rattle.std.proofs.lemmas.Int.{ints}
use Rattle.std.proofs.lemmas.Nat.{le-div, div-add-mod'}
use Rattle.std.proofs.Math.Nat.{mul-le-mul_right}
use Rattle.format_filter.specs.declared.progression.Numbers.TheVariants.{Nothing, One, Two, More}
use Rattle.format_filter.specs.working.Progression.{AreFrom}

module _ (low high : ℤ) (span first period : ℕ) (e : high ≡ low +ℤ pos span) (z : 0 < period) where
  below : (n : ℤ) (x : ℕ) → n ≡ low +ℤ pos x → n ≤ℤ high → x ≤ span
  below n x h l = omega (arith, ints)

  within : (n : ℤ) (x : ℕ) → n ≡ low +ℤ pos x → x ≤ span → n ≤ℤ high
  within n x h l = omega (arith, ints)

  -- no more than fit
  counted : (n : ℤ) (i : ℕ) → n ≡ low +ℤ pos (first + i * period) → n ≤ℤ high → i ≤ (span - first) / period
  counted n i h l =
      let fits : first + i * period ≤ span = below n (first + i * period) h l in
      le-div i (span - first) period z (omega arith)

  pub from_nothing : span < first → AreFrom low high first period Nothing
  from_nothing l = record {
    only = λ n h. absurd h;
    all = λ n i h u. let fits : first + i * period ≤ span = below n (first + i * period) h u in omega arith;
    ordered = tt;
  }

  pub from_one : (m : ℤ) → first ≤ span → (span - first) / period ≡ 0 → m ≡ low +ℤ pos first → AreFrom low high first period (One m)
  from_one m l c f = record {
    only = λ n h. let is : n ≡ low +ℤ pos (first + 0 * period) = h ∙ f ∙ ap (λ (v : ℕ). low +ℤ pos v) (omega arith) in
        ((0, is), within n (first + 0 * period) is (omega arith));
    all = λ n i h u. let none : i ≡ 0 = omega (arith, counted n i h u) in
        h ∙ ap (λ (v : ℕ). low +ℤ pos (first + v * period)) none ∙ ap (λ (v : ℕ). low +ℤ pos v) (omega arith) ∙ sym f;
    ordered = tt;
  }

  -- this number of them fits
  pub fit : first ≤ span → (i : ℕ) → i ≤ (span - first) / period → first + i * period ≤ span
  fit l i h = omega (arith, mul-le-mul_right period h, div-add-mod' (span - first) period)

  pub from_two : (m k : ℤ) → first ≤ span → (span - first) / period ≡ 1 → m ≡ low +ℤ pos first → k ≡ low +ℤ pos (first + period)
      → AreFrom low high first period (Two m k)
  from_two m k l c f g = record {
    only = λ n h. elim h [
      | inl is_m ↦ let is : n ≡ low +ℤ pos (first + 0 * period) = is_m ∙ f ∙ ap (λ (v : ℕ). low +ℤ pos v) (omega arith) in
          ((0, is), within n (first + 0 * period) is (omega arith))
      | inr is_k ↦ let is : n ≡ low +ℤ pos (first + 1 * period) = is_k ∙ g ∙ ap (λ (v : ℕ). low +ℤ pos v) (omega arith) in
          ((1, is), within n (first + 1 * period) is (fit l 1 (omega arith)))
    ];
    all = λ n i h u. one_or_other n i h (omega (arith, counted n i h u));
    ordered = omega (arith, ints);
  } where
    one_or_other : (n : ℤ) (i : ℕ) → n ≡ low +ℤ pos (first + i * period) → i ≤ 1 → (n ≡ m) ⊎ (n ≡ k)
    one_or_other n zero h u = inl (h ∙ ap (λ (v : ℕ). low +ℤ pos v) (omega arith) ∙ sym f)
    one_or_other n (suc zero) h u = inr (h ∙ ap (λ (v : ℕ). low +ℤ pos v) (omega arith) ∙ sym g)
    one_or_other n (suc (suc i)) h u = absurd (omega arith)

  pub from_more : (min max step : ℤ) (more : ℕ) → first ≤ span → more ≡ (span - first) / period → 2 ≤ more → min ≡ low +ℤ pos first
      → max ≡ low +ℤ pos (first + more * period) → step ≡ pos period
      → AreFrom low high first period (More (record { min = min; max = max; step = step }))
  from_more min max step more l c two f g s =
      let turned : (i : ℕ) → low +ℤ pos (first + i * period) ≡ min +ℤ (pos i *ℤ step) =
      λ i. let product : pos i *ℤ step ≡ pos (i * period) = ap (λ (v : ℤ). pos i *ℤ v) s in omega (arith, ints) in
      record {
        only = λ n h.
            let is : n ≡ low +ℤ pos (first + h.0.0 * period) = h.0.1 ∙ sym (turned h.0.0) in
            let most : h.0.0 * period ≤ more * period = omega (arith, ints, h.1) in
            ((h.0.0, is), within n (first + h.0.0 * period) is (omega (arith, most, fit l more (omega arith))));
        all = λ n i h u.
            let few : i * period ≤ more * period = mul-le-mul_right period (omega (arith, counted n i h u)) in
            ((i, h ∙ turned i), omega (arith, ints));
        ordered = (omega (arith, ints), (more, two, g ∙ turned more));
      }
