-- Where the checks of a body hold, the decoder's answer is right.
use Rattle.std.proofs.Common.{◌≡◌, ℕ, ◌+◌, ◌-◌, ◌≤◌, ◌==◌, ◌&&◌, not, nat_lt, false, cond, inl, inr, List, []}
use Rattle.std.proofs.Common.{◌∷◌, Some, None, Result, Ok, Err, refl, sym, subst, arith}
use Rattle.std.proofs.lemmas.Bool.{lt-ltb, le-ltb, ltb-false, eqb-false, eq-eqb, ne_eqb, cases_lt, cases_eq, and_cases, cond-true}
use Rattle.std.proofs.lemmas.Bool.{cond-false}
use Rattle.std.specs.Prelude.{slice_index, slice_range}
use Rattle.pod_codec.specs.declared.pod.Pod.{Pod}
use Rattle.pod_codec.specs.declared.pod.Prop.{Prop}
use Rattle.pod_codec.specs.declared.pod.Control.{Control}
use Rattle.pod_codec.specs.declared.pod.Pod.TheOpen.{Pod-F, Prop-F, Control-F}
use Rattle.pod_codec.specs.declared.pod.Pod.TheViews.{out-roll-Prop, out-roll-Control}
use Rattle.pod_codec.specs.declared.fault.PodFault.{PodFault}
use Rattle.pod_codec.specs.declared.fault.PodFault.TheVariants.{Short, TypeUnknown, Size, Nul}
use Rattle.pod_codec.specs.PodType.{is_known_type, choice_number}
use Rattle.pod_codec.specs.Places.{u32_at}
use Rattle.pod_codec.specs.Spelling.{IsPropAt, IsControlAt, IsBodyAt}
use Rattle.pod_codec.specs.Checks.{first_failed, body_checks, text_checks, array_checks, choice_checks, children_checks}
use Rattle.pod_codec.specs.FirstFault.{IsKeyedFault, IsHeldFault}
use Rattle.pod_codec.proofs.Decoder.{mapped, run, child_of, values_of, kind_of, prop_of, control_of, keyed_step, body_of}
use Rattle.pod_codec.proofs.Decoder.{leaf_of}
use Rattle.pod_codec.proofs.AnswerLemmas.{StepRight, RunRight, run_right}
use Rattle.pod_codec.proofs.ChildrenChecksLemmas.{passed, same_number, children_right}
use Rattle.pod_codec.proofs.TypeCases.{by_type}

-- a body's answer is right
abbrev pub BodyRight : (ℕ → Pod → ℕ → Type 0) → (ℕ → PodFault → Type 0) → List ℕ → ℕ → ℕ → ℕ
    → Result (Pod-F Pod Control Prop) PodFault → Type 0
BodyRight Held Faults bytes t b e (Ok v) = IsBodyAt Held bytes t b e v
BodyRight Held Faults bytes t b e (Err f) = IsHeldFault Held Faults bytes t b e f

struct_right : (Held : ℕ → Pod → ℕ → Type 0) (Faults : ℕ → PodFault → Type 0) (bytes : List ℕ) (b e : ℕ) (r : Result (List Pod) PodFault)
    → RunRight Held Faults e b r → BodyRight Held Faults bytes 14 b e (mapped Pod-F.Struct r)
struct_right Held Faults bytes b e (Ok xs) h = (refl, h)
struct_right Held Faults bytes b e (Err f) h = inl (refl, h)

object_right : (Held : ℕ → Pod → ℕ → Type 0) (Faults : ℕ → PodFault → Type 0) (bytes : List ℕ) (b e : ℕ) (r : Result (List Prop) PodFault)
    → RunRight (IsPropAt Held bytes) (IsKeyedFault Faults e) e (b + 8) r
    → BodyRight Held Faults bytes 15 b e (mapped (Pod-F.Object (u32_at bytes b) (u32_at bytes (b + 4))) r)
object_right Held Faults bytes b e (Ok xs) h = (refl, refl, refl, h)
object_right Held Faults bytes b e (Err f) h = inr (inl (refl, h))

sequence_right : (Held : ℕ → Pod → ℕ → Type 0) (Faults : ℕ → PodFault → Type 0) (bytes : List ℕ) (b e : ℕ)
    (r : Result (List Control) PodFault) → RunRight (IsControlAt Held bytes) (IsKeyedFault Faults e) e (b + 8) r
    → BodyRight Held Faults bytes 16 b e (mapped (Pod-F.Sequence (u32_at bytes b)) r)
sequence_right Held Faults bytes b e (Ok xs) h = (refl, refl, h)
sequence_right Held Faults bytes b e (Err f) h = inr (inr (refl, h))

-- what is made of a POD that is held is where the POD ends
abbrev pub MakesAt : {X : Type 0} → (ℕ → Pod → ℕ → Type 0) → (ℕ → X → ℕ → Type 0) → (ℕ → Pod × ℕ → X × ℕ) → Type 0
MakesAt Held At made = (q : ℕ) (pod : Pod) (m : ℕ) → Held (q + 8) pod m → At q (made q (pod, m)).0 m × ((made q (pod, m)).1 ≡ m)

makes_prop : (Held : ℕ → Pod → ℕ → Type 0) (bytes : List ℕ) → MakesAt Held (IsPropAt Held bytes) (prop_of bytes)
makes_prop Held bytes q pod m h =
    let made : Prop-F Pod Control Prop = record { key = u32_at bytes q; flags = u32_at bytes (q + 4); value = pod } in (
      subst (λ (p : Prop-F Pod Control Prop). (p.key ≡ u32_at bytes q) × (p.flags ≡ u32_at bytes (q + 4)) × Held (q + 8) p.value m)
          (sym (out-roll-Prop made)) (refl, refl, h),
      refl,
    )

makes_control : (Held : ℕ → Pod → ℕ → Type 0) (bytes : List ℕ) → MakesAt Held (IsControlAt Held bytes) (control_of bytes)
makes_control Held bytes q pod m h =
    let made : Control-F Pod Control Prop = record { offset = u32_at bytes q; kind = u32_at bytes (q + 4); value = pod } in (
      subst (λ (c : Control-F Pod Control Prop).
          (c.offset ≡ u32_at bytes q) × (c.kind ≡ u32_at bytes (q + 4)) × Held (q + 8) c.value m)
          (sym (out-roll-Control made)) (refl, refl, h),
      refl,
    )

module _ {X : Type 0} (Held : ℕ → Pod → ℕ → Type 0) (Faults : ℕ → PodFault → Type 0) (At : ℕ → X → ℕ → Type 0)
    (made : ℕ → Pod × ℕ → X × ℕ) (makes : MakesAt Held At made) where
  made_right : (e q : ℕ) → q + 8 ≤ e → (r : Result (Pod × ℕ) PodFault) → StepRight Held Faults (λ m. Unit {0}) e (q + 8) r
      → StepRight At (IsKeyedFault Faults e) (λ m. Unit {0}) e q (mapped (made q) r)
  made_right e q l (Ok x) h =
      let k = makes q x.0 x.1 h.0 in (
        subst (At q (made q x).0) (sym k.1) k.0,
        omega (arith, h.1, k.1),
        omega (arith, h.2, k.1),
        tt,
      )
  made_right e q l (Err f) h = inr (l, h)

  keyed_right : (step : ℕ → Result (Pod × ℕ) PodFault) (e : ℕ) → ((q : ℕ) → StepRight Held Faults (λ m. Unit {0}) e q (step q))
      → (q : ℕ) → StepRight At (IsKeyedFault Faults e) (λ m. Unit {0}) e q (keyed_step made step e q)
  keyed_right step e right q =
      let P = StepRight At (IsKeyedFault Faults e) (λ (m : ℕ). Unit {0}) e q in
      elim (cases_lt e (q + 8)) [
        | inl less ↦ subst P (sym (cond-true (nat_lt e (q + 8)) (Err (Short q)) (mapped (made q) (step (q + 8)))
            (lt-ltb e (q + 8) less))) (inl (less, refl))
        | inr more ↦ subst P (sym (cond-false (nat_lt e (q + 8)) (Err (Short q)) (mapped (made q) (step (q + 8)))
            (le-ltb e (q + 8) more))) (made_right e q more (step (q + 8)) (right (q + 8)))
      ]

  -- such things one after the other
  all_right : (step : ℕ → Result (Pod × ℕ) PodFault) (e b : ℕ) → ((q : ℕ) → StepRight Held Faults (λ m. Unit {0}) e q (step q))
      → b ≤ e → RunRight At (IsKeyedFault Faults e) e b (run (keyed_step made step e) e b e)
  all_right step e b right l = run_right At (IsKeyedFault Faults e) (λ m. Unit {0}) (keyed_step made step e) e
      (λ q l i. keyed_right step e right q) e b l (omega arith) tt

kind_right : (n : ℕ) → n ≤ 4 → choice_number (kind_of n) ≡ n
kind_right n l =
    elim (cases_lt n 1) [
      | inl a ↦ let e : n ≡ 0 = omega arith in rw e refl
      | inr a ↦
          elim (cases_lt n 2) [
            | inl b ↦ let e : n ≡ 1 = omega arith in rw e refl
            | inr b ↦
                elim (cases_lt n 3) [
                  | inl c ↦ let e : n ≡ 2 = omega arith in rw e refl
                  | inr c ↦ elim (cases_lt n 4) [
                    | inl d ↦ let e : n ≡ 3 = omega arith in rw e refl
                    | inr d ↦ let e : n ≡ 4 = omega arith in
                        rw e refl
                  ]
                ]
          ]
    ]

text_right : (Held : ℕ → Pod → ℕ → Type 0) (bytes : List ℕ) (p size : ℕ) → first_failed (text_checks bytes p size) ≡ None
    → IsBodyAt Held bytes 8 (p + 8) (p + 8 + size) (Pod-F.Text (slice_range bytes (p + 8) (p + 8 + size - 1)))
text_right Held bytes p size h =
    let last = slice_index bytes (p + 8 + size - 1) in
    let a = passed (size == 0) (Nul p) ((not (last == 0), Nul p) ∷ []) h in
    let b = passed (not (last == 0)) (Nul p) [] a.1 in
    let some = eqb-false size 0 a.0 in
    (refl, omega (arith, some), same_number last 0 b.0, refl)

array_right : (Held : ℕ → Pod → ℕ → Type 0) (Faults : ℕ → PodFault → Type 0) (bytes : List ℕ) (p size : ℕ)
    → first_failed (array_checks bytes p size) ≡ None
    → IsBodyAt Held bytes 13 (p + 8) (p + 8 + size) (leaf_of bytes 13 (p + 8) (p + 8 + size))
array_right Held Faults bytes p size h =
    let b = p + 8 in
    let e = p + 8 + size in
    let full = Pod-F.Array (child_of bytes b) (values_of bytes b e) in
    let P = λ (v : Pod-F Pod Control Prop). IsBodyAt Held bytes 13 b e v in
    let a = passed (nat_lt 0 size && nat_lt size 8) (Size p) (cond (size == 0) [] (children_checks bytes p (p + 8) (p + 8 + size))) h in
    elim (cases_eq size 0) [
      | inl none ↦ subst P (sym (cond-true (e == b) (Pod-F.Array 1 []) full (eq-eqb e b (omega arith))))
          (refl, inl (omega arith, refl, refl))
      | inr some ↦
          let long : 8 ≤ size = elim (and_cases (nat_lt 0 size) (nat_lt size 8) a.0)
          [ inl x ↦ absurd (omega (arith, ltb-false 0 size x, some)) | inr y ↦ ltb-false size 8 y ] in
          let checks = rw (ne_eqb size 0 some) at a.1 in
          subst P (sym (cond-false (e == b) (Pod-F.Array 1 []) full (ne_eqb e b (λ z. omega arith))))
          (refl, inr (children_right bytes p b e (omega arith) checks))
    ]

choice_right : (Held : ℕ → Pod → ℕ → Type 0) (bytes : List ℕ) (p size : ℕ) → first_failed (choice_checks bytes p size) ≡ None
    → IsBodyAt Held bytes 19 (p + 8) (p + 8 + size) (leaf_of bytes 19 (p + 8) (p + 8 + size))
choice_right Held bytes p size h =
    let kind = u32_at bytes (p + 8) in
    let rest = children_checks bytes p (p + 16) (p + 8 + size) in
    let a = passed (nat_lt size 16) (Size p) ((nat_lt 4 kind, TypeUnknown (p + 8) kind) ∷ rest) h in
    let b = passed (nat_lt 4 kind) (TypeUnknown (p + 8) kind) rest a.1 in
    let long = ltb-false size 16 a.0 in
    let there : p + 16 ≡ p + 8 + 8 = omega arith in
    let checks = subst (λ (c : ℕ). first_failed (children_checks bytes p c (p + 8 + size)) ≡ None) there b.1 in
    (refl, kind_right kind (ltb-false 4 kind b.0), refl, children_right bytes p (p + 8 + 8) (p + 8 + size) (omega (arith, long)) checks)

none_unknown : (bytes : List ℕ) (p size t : ℕ) → is_known_type t ≡ false → first_failed (body_checks bytes p size t) ≡ None → ⊥
none_unknown bytes p size t unknown h = let k : Some (TypeUnknown (p + 4) t) ≡ None = rw unknown at h in cc

-- where the checks of a body hold, its answer is right
pub body_right : (Held : ℕ → Pod → ℕ → Type 0) (Faults : ℕ → PodFault → Type 0) (step : ℕ → Result (Pod × ℕ) PodFault) (bytes : List ℕ)
    (p size : ℕ) → ((q : ℕ) → StepRight Held Faults (λ m. Unit {0}) (p + 8 + size) q (step q))
    → (t : ℕ) → first_failed (body_checks bytes p size t) ≡ None
    → BodyRight Held Faults bytes t (p + 8) (p + 8 + size) (body_of step bytes t (p + 8) (p + 8 + size))
body_right Held Faults step bytes p size right =
    let b = p + 8 in
    let e = p + 8 + size in
    let P : ℕ → Type 0 = λ t. first_failed (body_checks bytes p size t) ≡ None
    → BodyRight Held Faults bytes t b e (body_of step bytes t b e) in
    let exact : (n : ℕ) → first_failed ((not (size == n), Size p) ∷ []) ≡ None
    → e ≡ b + n = λ n h. let s = same_number size n (passed (not (size == n)) (Size p) [] h).0 in omega (arith, s) in
    by_type P
    (λ h. let s = exact 0 h in (refl, omega arith))
    (λ h. (exact 4 h, (refl, refl))) (λ h. (exact 4 h, (refl, refl))) (λ h. (exact 4 h, (refl, refl))) (λ h. (exact 8 h, (refl, refl)))
    (λ h. (exact 4 h, (refl, refl))) (λ h. (exact 8 h, (refl, refl)))
    (λ h. text_right Held bytes p size h)
    (λ h. (refl, refl))
    (λ h. (exact 8 h, (refl, refl, refl))) (λ h. (exact 8 h, (refl, refl, refl)))
    (λ h. (refl, refl))
    (λ h. array_right Held Faults bytes p size h)
    (λ h. struct_right Held Faults bytes b e (run step e b e)
    (run_right Held Faults (λ m. Unit {0}) step e (λ q l i. right q) e b (omega arith) (omega arith) tt))
    (λ h.
    let long = ltb-false size 8 (passed (nat_lt size 8) (Size p) [] h).0 in
    object_right Held Faults bytes b e (run (keyed_step (prop_of bytes) step e) e (b + 8) e)
    (all_right Held Faults (IsPropAt Held bytes) (prop_of bytes) (makes_prop Held bytes) step e (b + 8) right (omega (arith, long))))
    (λ h.
    let long = ltb-false size 8 (passed (nat_lt size 8) (Size p) [] h).0 in
    sequence_right Held Faults bytes b e (run (keyed_step (control_of bytes) step e) e (b + 8) e)
    (all_right Held Faults (IsControlAt Held bytes) (control_of bytes) (makes_control Held bytes) step e (b + 8) right
    (omega (arith, long))))
    (λ h. (exact 8 h, (refl, refl)))
    (λ h. choice_right Held bytes p size h)
    (λ t unknown h. absurd (none_unknown bytes p size t unknown h))
