-- Laws of `specs/Sums.antt`.
use Rattle.std.proofs.Common.{◌≡◌, ◌≢◌, ℕ, zero, suc, ◌+◌, ◌<◌, ◌≤◌, List, ◌∷◌, cond, refl, sym, ap, ◌∙◌, arith, eq-eqb}
use Rattle.std.proofs.Common.{ne_eqb}
use mathlib.Core.Logic.{dite}
use native.Mathlib.Decide.{ℕ_discrete}
use Rattle.board_rule.specs.Sums.{total, times}

pub total_same : (f g : ℕ → ℕ) (k : ℕ) → ((i : ℕ) → i < k → g i ≡ f i) → total g k ≡ total f k
total_same f g zero same = refl
total_same f g (suc k) same = let e = total_same f g k (λ i h. same i (omega arith)) in let l = same k (omega arith) in omega arith

pub total_change : (f g : ℕ → ℕ) (m k : ℕ) → m < k → ((i : ℕ) → i ≢ m → g i ≡ f i) → total g k + f m ≡ total f k + g m
total_change f g m zero h same = absurd (omega arith)
total_change f g m (suc k) h same = dite (ℕ_discrete m k)
    (λ (e : m ≡ k). let t = total_same f g k (λ i l. same i (λ x. omega arith)) in let a : f m ≡ f k = ap f e in
    let b : g m ≡ g k = ap g e in omega arith)
    (λ (e : m ≢ k). let t = total_change f g m k (omega arith) same in let a = same k (λ x. e (sym x)) in omega arith)

pub total_zero : (f : ℕ → ℕ) (k : ℕ) → ((i : ℕ) → i < k → f i ≡ 0) → total f k ≡ 0
total_zero f zero z = refl
total_zero f (suc k) z = let e = total_zero f k (λ i h. z i (omega arith)) in let l = z k (omega arith) in omega arith

pub total_at : (f : ℕ → ℕ) (m k : ℕ) → m < k → f m ≤ total f k
total_at f m zero h = absurd (omega arith)
total_at f m (suc k) h = dite (ℕ_discrete m k)
    (λ (e : m ≡ k). let a : f m ≡ f k = ap f e in omega arith)
    (λ (e : m ≢ k). let t = total_at f m k (omega arith) in omega arith)

pub times_here : (n : ℕ) (xs : List ℕ) → times n (n ∷ xs) ≡ 1 + times n xs
times_here n xs = ap (λ b. cond b 1 0 + times n xs) (eq-eqb n n refl)

pub times_else : (n i : ℕ) (xs : List ℕ) → i ≢ n → times i (n ∷ xs) ≡ times i xs
times_else n i xs other = ap (λ b. cond b 1 0 + times i xs) (ne_eqb n i (λ e. other (sym e)))
    ∙ (let e : 0 + times i xs ≡ times i xs = omega arith in e)
