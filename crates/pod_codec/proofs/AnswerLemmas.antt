-- The decoder answers what is spelled, or the first fault: so each input has one of both.
use Rattle.std.proofs.Common.{ℕ, zero, suc, ◌+◌, ◌≤◌, ◌<◌, nat_lt, inl, inr, List, [], ◌∷◌, Result, Ok, Err, refl, sym, subst, arith}
use Rattle.std.proofs.lemmas.Bool.{lt-ltb, le-ltb, cases_lt, cond-true, cond-false}
use Rattle.pod_codec.specs.declared.fault.PodFault.{PodFault}
use Rattle.pod_codec.specs.Places.{AreAfter}
use Rattle.pod_codec.proofs.Decoder.{mapped, after, run}

-- a step's answer is right: a thing that ends further on, within e, or its fault
abbrev pub StepRight : {X : Type 0} → (ℕ → X → ℕ → Type 0) → (ℕ → PodFault → Type 0) → (ℕ → Type 0) → ℕ → ℕ
    → Result (X × ℕ) PodFault → Type 0
StepRight R F I e q (Ok x) = R q x.0 x.1 × (q < x.1) × (x.1 ≤ e) × I x.1
StepRight R F I e q (Err f) = F q f

-- and a run's: things one after the other, or those before a fault
abbrev pub RunRight : {X : Type 0} → (ℕ → X → ℕ → Type 0) → (ℕ → PodFault → Type 0) → ℕ → ℕ → Result (List X) PodFault → Type 0
RunRight R F e p (Ok xs) = AreAfter R p xs e
RunRight {X} R F e p (Err f) = (xs : List X) × (q : ℕ) × AreAfter R p xs q × (q < e) × F q f

one_more : {X : Type 0} (R : ℕ → X → ℕ → Type 0) (F : ℕ → PodFault → Type 0) (e p : ℕ) (x : X) (m : ℕ) → R p x m
    → (r : Result (List X) PodFault) → RunRight R F e m r → RunRight R F e p (mapped (λ xs. x ∷ xs) r)
one_more R F e p x m one (Ok xs) h = (m, one, h)
one_more R F e p x m one (Err f) h = (x ∷ h.0, h.1, (m, one, h.2), h.3, h.4)

one_step : {X : Type 0} (R : ℕ → X → ℕ → Type 0) (F : ℕ → PodFault → Type 0) (I : ℕ → Type 0) (rest : ℕ → Result (List X) PodFault)
    (e p : ℕ) → p < e → ((m : ℕ) → p < m → m ≤ e → I m → RunRight R F e m (rest m))
    → (r : Result (X × ℕ) PodFault) → StepRight R F I e p r → RunRight R F e p (after rest r)
one_step R F I rest e p l more (Ok x) s = one_more R F e p x.0 x.1 s.0 (rest x.1) (more x.1 s.1 s.2 s.3)
one_step R F I rest e p l more (Err f) s = ([], p, refl, l, s)

pub run_right : {X : Type 0} (R : ℕ → X → ℕ → Type 0) (F : ℕ → PodFault → Type 0) (I : ℕ → Type 0)
    (step : ℕ → Result (X × ℕ) PodFault) (e : ℕ) → ((q : ℕ) → q < e → I q → StepRight R F I e q (step q))
    → (n p : ℕ) → p ≤ e → e ≤ p + n → I p → RunRight R F e p (run step n p e)
run_right R F I step e right zero p l b i = omega arith
run_right {X} R F I step e right (suc n) p l b i =
    let rest = λ (m : ℕ). run step n m e in
    elim (cases_lt p e) [
      | inl less ↦
          subst (λ (r : Result (List X) PodFault). RunRight R F e p r)
          (sym (cond-true (nat_lt p e) (after rest (step p)) (Ok []) (lt-ltb p e less)))
          (one_step R F I rest e p less (λ m a c j. run_right R F I step e right n m c (omega arith) j) (step p) (right p less i))
      | inr more ↦ subst (λ (r : Result (List X) PodFault). RunRight R F e p r)
          (sym (cond-false (nat_lt p e) (after rest (step p)) (Ok []) (le-ltb p e more))) (omega arith)
    ]
