-- Laws of `specs/PlanSums.antt`: sums that stay at the greatest number.
use Rattle.std.proofs.Common.{◌≡◌, ℕ, zero, suc, ◌+◌, ◌-◌, ◌*◌, ◌^◌, ◌<◌, ◌≤◌, min, List, [], ◌∷◌, ◌++◌, length}
use Rattle.std.proofs.Common.{get_or, take, true, false, Bool, cond, refl, sym, ◌∙◌, ap, subst, arith, inl, inr, append-nil}
use Rattle.std.specs.Prelude.{filter, sum_by, IsTrue, nat_le, ◌↔◌}
use Rattle.std.proofs.Math.Nat.{le-mul_of_pos_right, mul_comm, zero-mul}
use Rattle.std.proofs.lemmas.Bool.{cases_lt, le-leb, leb-true}
use Rattle.std.proofs.lemmas.List.{take_more}
use Rattle.std.proofs.lemmas.List.Elements.{filter-append}
use Rattle.std.proofs.lemmas.List.Sums.{sum_by_more, sum_by_push}
use Rattle.pw_graph.specs.PlanSums.{capped}

pub capped-zero : capped 0 ≡ 0
unfolding capped
capped-zero = refl

capped_small : (n : ℕ) → n < 2 ^ 64 → capped n ≡ n
unfolding capped
capped_small n lt = omega arith

capped_great : (n : ℕ) → 2 ^ 64 ≤ n + 1 → capped n ≡ 2 ^ 64 - 1
unfolding capped
capped_great n ge = omega arith

-- a limit is kept by a number exactly where it is kept by the number as far as it is counted
pub capped_within : (n k : ℕ) → k < 2 ^ 63 → IsTrue (nat_le (capped n) k) ↔ (n ≤ k)
unfolding capped
capped_within n k small = (λ t. let h : min n (2 ^ 64 - 1) ≤ k = leb-true _ _ t in omega arith, λ h. le-leb _ _ (omega arith))

pub capped-add : (a b : ℕ) → capped (capped a + capped b) ≡ capped (a + b)
unfolding capped
capped-add a b = omega arith

pub capped-add_left : (a b : ℕ) → capped (capped a + b) ≡ capped (a + b)
unfolding capped
capped-add_left a b = omega arith

le_times : (a x : ℕ) → 0 < a → x ≤ a * x
le_times a x pos = subst (λ n. x ≤ n) (mul_comm x a) (le-mul_of_pos_right x pos)

pub capped-mul : (a x : ℕ) → capped (a * capped x) ≡ capped (a * x)
capped-mul zero x = ap capped (zero-mul (capped x) ∙ sym (zero-mul x))
capped-mul (suc a) x = elim (cases_lt x (2 ^ 64)) [
  | inl lt ↦ ap (λ n. capped (suc a * n)) (capped_small x lt)
  | inr ge ↦ (let e : capped x ≡ 2 ^ 64 - 1 = capped_great x (omega arith) in
      let low : capped x ≤ suc a * capped x = le_times (suc a) (capped x) (omega arith) in
      let high : x ≤ suc a * x = le_times (suc a) x (omega arith) in
      capped_great (suc a * capped x) (omega arith) ∙ sym (capped_great (suc a * x) (omega arith)))
]

-- one number more
module _ {X : Type 0} (f : X → ℕ) (xs : List X) (i : ℕ) (d : X) (lt : i < length xs) where
  pub capped_sum_more : (total amount next : ℕ) → total ≡ capped (sum_by f (take i xs)) → amount ≡ capped (f (get_or xs i d))
      → next ≡ capped (total + amount) → next ≡ capped (sum_by f (take (i + 1) xs))
  capped_sum_more total amount next t a n =
      n ∙ ap (λ k. capped (k + amount)) t ∙ ap (λ k. capped (capped (sum_by f (take i xs)) + k)) a
      ∙ capped-add (sum_by f (take i xs)) (f (get_or xs i d)) ∙ ap capped (sym (sum_by_more f xs i d lt))

module _ {X : Type 0} (p : X → Bool) (f : X → ℕ) (xs : List X) (i : ℕ) (d : X) (lt : i < length xs) where
  filter_more : filter p (take (i + 1) xs) ≡ filter p (take i xs) ++ cond (p (get_or xs i d)) (get_or xs i d ∷ []) []
  filter_more = ap (filter p) (take_more xs i d lt) ∙ filter-append p (take i xs) (get_or xs i d ∷ [])

  pub capped_filter_yes : p (get_or xs i d) ≡ true → (total amount next : ℕ) → total ≡ capped (sum_by f (filter p (take i xs)))
      → amount ≡ capped (f (get_or xs i d)) → next ≡ capped (total + amount)
      → next ≡ capped (sum_by f (filter p (take (i + 1) xs)))
  capped_filter_yes here total amount next t a n =
      let more : filter p (take (i + 1) xs) ≡ filter p (take i xs) ++ get_or xs i d ∷ [] =
      filter_more ∙ ap (λ b. filter p (take i xs) ++ cond b (get_or xs i d ∷ []) []) here in
      n ∙ ap (λ k. capped (k + amount)) t ∙ ap (λ k. capped (capped (sum_by f (filter p (take i xs))) + k)) a
      ∙ capped-add (sum_by f (filter p (take i xs))) (f (get_or xs i d))
      ∙ ap capped (sym (sum_by_push f (filter p (take i xs)) (get_or xs i d))) ∙ ap (λ ys. capped (sum_by f ys)) (sym more)

  pub capped_filter_no : p (get_or xs i d) ≡ false → (total next : ℕ) → total ≡ capped (sum_by f (filter p (take i xs))) → next ≡ total
      → next ≡ capped (sum_by f (filter p (take (i + 1) xs)))
  capped_filter_no here total next t n =
      let same : filter p (take (i + 1) xs) ≡ filter p (take i xs) =
      filter_more ∙ ap (λ b. filter p (take i xs) ++ cond b (get_or xs i d ∷ []) []) here ∙ append-nil (filter p (take i xs)) in
      n ∙ t ∙ ap (λ ys. capped (sum_by f ys)) (sym same)
