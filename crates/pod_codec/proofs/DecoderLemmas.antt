-- A spelling fixes what the decoder answers, and so does a first fault.
use Rattle.std.proofs.Common.{◌≡◌, ℕ, zero, suc, ◌+◌, ◌≤◌, ◌<◌, nat_lt, List, [], ◌∷◌, Result, Ok, Err, refl, ap, ◌∙◌, arith}
use Rattle.std.proofs.lemmas.Bool.{lt-ltb, le-ltb, cond-true, cond-false}
use Rattle.pod_codec.specs.declared.fault.PodFault.{PodFault}
use Rattle.pod_codec.specs.Places.{AreAfter}
use Rattle.pod_codec.proofs.Decoder.{mapped, after, run}

module _ {X : Type 0} (R : ℕ → X → ℕ → Type 0) (step : ℕ → Result (X × ℕ) PodFault)
    (fixed : (q : ℕ) (x : X) (m : ℕ) → R q x m → (step q ≡ Ok (x, m)) × (q < m)) where
  pub reaches : (p : ℕ) (xs : List X) (e : ℕ) → AreAfter R p xs e → p ≤ e
  reaches p [] e h = omega (arith, h)
  reaches p (x ∷ xs) e h = omega (arith, (fixed p x h.0 h.1).1, reaches h.0 xs e h.2)

  pub run_found : (n p e : ℕ) (xs : List X) → AreAfter R p xs e → e ≤ p + n → run step n p e ≡ Ok xs
  run_found zero p e [] h b = refl
  run_found zero p e (x ∷ xs) h b = absurd (omega (arith, (fixed p x h.0 h.1).1, reaches h.0 xs e h.2))
  run_found (suc n) p e [] h b = cond-false (nat_lt p e) (after (λ m. run step n m e) (step p)) (Ok []) (le-ltb p e (omega (arith, h)))
  run_found (suc n) p e (x ∷ xs) h b =
      let s = fixed p x h.0 h.1 in
      let r = reaches h.0 xs e h.2 in
      cond-true (nat_lt p e) (after (λ m. run step n m e) (step p)) (Ok []) (lt-ltb p e (omega (arith, s.1, r)))
      ∙ ap (after (λ m. run step n m e)) s.0
      ∙ ap (mapped (λ ys. x ∷ ys)) (run_found n h.0 e xs h.2 (omega (arith, s.1)))

  pub run_fault : (n p e : ℕ) (xs : List X) (q : ℕ) (f : PodFault) → AreAfter R p xs q → q < e → step q ≡ Err f → e ≤ p + n
      → run step n p e ≡ Err f
  run_fault zero p e xs q f h l s b = absurd (omega (arith, reaches p xs q h))
  run_fault (suc n) p e [] q f h l s b =
      cond-true (nat_lt p e) (after (λ m. run step n m e) (step p)) (Ok []) (lt-ltb p e (omega (arith, h)))
      ∙ ap (λ a. after (λ m. run step n m e) (step a)) h
      ∙ ap (after (λ m. run step n m e)) s
  run_fault (suc n) p e (x ∷ xs) q f h l s b =
      let t = fixed p x h.0 h.1 in
      let r = reaches h.0 xs q h.2 in
      cond-true (nat_lt p e) (after (λ m. run step n m e) (step p)) (Ok []) (lt-ltb p e (omega (arith, t.1, r)))
      ∙ ap (after (λ m. run step n m e)) t.0
      ∙ ap (mapped (λ ys. x ∷ ys)) (run_fault n h.0 e xs q f h.2 l s (omega (arith, t.1)))
