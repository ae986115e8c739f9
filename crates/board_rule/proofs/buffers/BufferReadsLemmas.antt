-- Laws of `specs/BufferReads.antt`.
use Rattle.std.proofs.Common.{◌≡◌, ℕ, ◌+◌, ◌<◌, ◌≤◌, ◌⊎◌, inl, inr, Bool, true, false, true≢false, cond, leb, Some, None, Option}
use Rattle.std.proofs.Common.{refl, sym, ap, ◌∙◌, arith, eqb-true, leb-true, leb-false}
use mathlib.Core.Logic.{dite}
use native.Mathlib.Decide.{ℕ_discrete}
use Rattle.board_rule.specs.declared.view.BlockView.{BlockView}
use Rattle.board_rule.specs.declared.view.BlockView.TheVariants.{Free, Filling, Out}
use Rattle.board_rule.specs.declared.view.View.{View}
use Rattle.board_rule.specs.Layout.{BoardLayout}
use Rattle.board_rule.specs.buffers.BlockReadings.{is_busy, stamp}
use Rattle.board_rule.specs.buffers.EndViews.{pool_at, block_of}
use Rattle.board_rule.specs.buffers.BufferReads.{is_filled, older}
use Rattle.board_rule.specs.buffers.ReclaimSteps.{IsOldestOut}

-- a block that is filled, and one that is not
pub filled_yes : (words stamp : ℕ) (x : BlockView) → is_filled words stamp x ≡ true → (x ≡ (let z : BlockView = Filling words in z))
    ⊎ (x ≡ (let z : BlockView = Out stamp in z))
filled_yes words stamp Free h = absurd (true≢false (sym h))
filled_yes words stamp (Filling i) h = inl (ap (λ k. let z : BlockView = Filling k in z) (eqb-true i words h))
filled_yes words stamp (Out n) h = inr (ap (λ k. let z : BlockView = Out k in z) (eqb-true n stamp h))

-- the block that is out longest among the first k
abbrev pub IsOldest : BoardLayout → View → ℕ → ℕ → Option (ℕ × ℕ) → Type 0
IsOldest p v q k None = (a m : ℕ) → a < k → block_of p v q a ≡ Out m → ⊥
IsOldest p v q k (Some o) = (o.0 < k) × (block_of p v q o.0 ≡ Out o.1) × ((a m : ℕ) → a < k → block_of p v q a ≡ Out m → o.1 ≤ m)
    × ((a : ℕ) → a < o.0 → block_of p v q a ≡ Out o.1 → ⊥)

module _ (p : BoardLayout) (v : View) (q k : ℕ) where
  -- the next block is not out
  same_oldest : (before : Option (ℕ × ℕ)) → ((m : ℕ) → block_of p v q k ≡ Out m → ⊥) → IsOldest p v q k before
      → IsOldest p v q (k + 1) before
  same_oldest None no' h = λ a m l o. dite (ℕ_discrete a k) (λ e. no' m (ap (block_of p v q) (sym e) ∙ o)) (λ e. h a m (omega arith) o)
  same_oldest (Some b) no' h = let low = h.0 in (
    omega arith,
    h.1,
    (λ a m l o. dite (ℕ_discrete a k) (λ e. absurd (no' m (ap (block_of p v q) (sym e) ∙ o))) (λ e. h.2 a m (omega arith) o)),
    h.3,
  )

  out_stamp : (n m : ℕ) → (let z : BlockView = Out n in z) ≡ Out m → n ≡ m
  out_stamp n m e = ap (stamp 0) e

  chosen : (b : ℕ × ℕ) (n : ℕ) → block_of p v q k ≡ Out n → IsOldest p v q k (Some b) → (c : Bool) → leb b.1 n ≡ c
      → IsOldest p v q (k + 1) (cond c (Some b) (Some (k, n)))
  chosen b n e h true le = let low = h.0 in let less : b.1 ≤ n = leb-true b.1 n le in (
    omega arith,
    h.1,
    (λ a m l o. dite (ℕ_discrete a k)
        (λ z. let s = out_stamp n m (sym e ∙ ap (block_of p v q) (sym z) ∙ o) in omega arith) (λ z. h.2 a m (omega arith) o)),
    h.3,
  )
  chosen b n e h false le = let more : n < b.1 = leb-false b.1 n le in (
    omega arith,
    e,
    (λ a m l o. dite (ℕ_discrete a k) (λ z. let s = out_stamp n m (sym e ∙ ap (block_of p v q) (sym z) ∙ o) in omega arith)
        (λ z. let s = h.2 a m (omega arith) o in omega arith)),
    (λ a l o. let s = h.2 a n l o in absurd (omega arith)),
  )

  pub older_next : (before : Option (ℕ × ℕ)) (x : BlockView) → block_of p v q k ≡ x → IsOldest p v q k before
      → IsOldest p v q (k + 1) (older before k x)
  older_next before Free e h = same_oldest before (λ m o. true≢false (sym (ap is_busy (sym e ∙ o)))) h
  older_next before (Filling i) e h = same_oldest before (λ m o. not_out i m (sym e ∙ o)) h
    where
      not_out : (i m : ℕ) → (let z : BlockView = Filling i in z) ≡ Out m → ⊥
      not_out i m z = (cc)
  older_next None (Out n) e h = (
    omega arith,
    e,
    (λ a m l o. dite (ℕ_discrete a k)
        (λ z. let s = out_stamp n m (sym e ∙ ap (block_of p v q) (sym z) ∙ o) in omega arith) (λ z. absurd (h a m (omega arith) o))),
    (λ a l o. h a n l o),
  )
  older_next (Some b) (Out n) e h = chosen b n e h (leb b.1 n) refl

-- the answer
pub oldest_is : (p : BoardLayout) (v : View) (q : ℕ) (b : ℕ × ℕ) → IsOldest p v q (pool_at p q).blocks (Some b) → IsOldestOut p v q b.0 b.1
oldest_is p v q b h = record { inside = h.0; is = h.1; oldest = h.2; before = h.3 }
