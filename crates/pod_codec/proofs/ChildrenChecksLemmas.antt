-- Where the checks hold, the decoder's children and values without PODs are spelled.
use Rattle.std.proofs.Common.{◌≡◌, ℕ, ◌+◌, ◌-◌, ◌%◌, ◌≤◌, ◌<◌, ◌==◌, ◌||◌, not, nat_le, Bool, true, false, cond}
use Rattle.std.proofs.Common.{◌⊎◌, inl, inr, List, [], ◌∷◌, None, Result, Ok, Err, refl, sym, subst, arith}
use Rattle.std.proofs.lemmas.Bool.{leb-true, eqb-true, eqb-false, cases_Bool, and_parts, or_cases, not-false}
use Rattle.pod_codec.specs.declared.pod.Pod.{Pod}
use Rattle.pod_codec.specs.declared.pod.Prop.{Prop}
use Rattle.pod_codec.specs.declared.pod.Control.{Control}
use Rattle.pod_codec.specs.declared.pod.Pod.TheOpen.{Pod-F}
use Rattle.pod_codec.specs.declared.pod.Pod.TheViews.{out-roll-Pod}
use Rattle.pod_codec.specs.declared.fault.PodFault.{PodFault}
use Rattle.pod_codec.specs.declared.fault.PodFault.TheVariants.{TypeUnknown, Size, Uneven}
use Rattle.pod_codec.specs.PodType.{child_size, has_four_bytes, has_eight_bytes}
use Rattle.pod_codec.specs.Places.{u32_at, AreAfter, IsScalarAt, IsElementAt, HasChildren}
use Rattle.pod_codec.specs.Checks.{Check, first_failed, children_checks}
use Rattle.pod_codec.proofs.Decoder.{run, scalar, is_bare, child_of, values_of, element_step, list_of}
use Rattle.pod_codec.proofs.ReadingLemmas.{four_or_eight, whole_less}
use Rattle.pod_codec.proofs.AnswerLemmas.{StepRight, RunRight, run_right}

-- a check that does not fail
pub passed : (b : Bool) (f : PodFault) (rest : List Check) → first_failed ((b, f) ∷ rest) ≡ None → (b ≡ false) × (first_failed rest ≡ None)
passed true f rest h = absurd cc
passed false f rest h = (refl, h)

pub same_number : (m n : ℕ) → not (m == n) ≡ false → m ≡ n
same_number m n h = eqb-true m n (not-false (m == n) h)

by_four : (P : ℕ → Type 0) → P 2 → P 3 → P 4 → P 6 → (n : ℕ) → has_four_bytes n ≡ true → P n
by_four P a b c d n h =
    elim (or_cases ((n == 2) || (n == 3)) ((n == 4) || (n == 6)) h) [
      | inl x ↦ elim (or_cases (n == 2) (n == 3) x) [ inl y ↦ subst P (sym (eqb-true n 2 y)) a | inr y ↦ subst P (sym (eqb-true n 3 y)) b ]
      | inr x ↦ elim (or_cases (n == 4) (n == 6) x) [ inl y ↦ subst P (sym (eqb-true n 4 y)) c | inr y ↦ subst P (sym (eqb-true n 6 y)) d ]
    ]

by_eight : (P : ℕ → Type 0) → P 5 → P 7 → P 10 → P 11 → P 18 → (n : ℕ) → has_eight_bytes n ≡ true → P n
by_eight P a b c d f n h =
    elim (or_cases ((n == 5) || (n == 7)) ((n == 10) || ((n == 11) || (n == 18))) h) [
      | inl x ↦ elim (or_cases (n == 5) (n == 7) x) [ inl y ↦ subst P (sym (eqb-true n 5 y)) a | inr y ↦ subst P (sym (eqb-true n 7 y)) b ]
      | inr x ↦
          elim (or_cases (n == 10) ((n == 11) || (n == 18)) x) [
            | inl y ↦ subst P (sym (eqb-true n 10 y)) c
            | inr y ↦ elim (or_cases (n == 11) (n == 18) y)
                [ inl z ↦ subst P (sym (eqb-true n 11 z)) d | inr z ↦ subst P (sym (eqb-true n 18 z)) f ]
          ]
    ]

sized_by : (a b : Bool) → 0 < cond a 4 (cond b 8 0) → (a ≡ true) ⊎ (b ≡ true)
sized_by true b h = inl refl
sized_by false true h = inr refl
sized_by false false h = absurd (omega arith)

scalar_right : (bytes : List ℕ) (q child : ℕ) → 0 < child_size child → IsScalarAt bytes child q (scalar bytes child q)
scalar_right bytes q child some =
    let P = λ (t : ℕ). IsScalarAt bytes t q (scalar bytes t q) in
    elim (sized_by (has_four_bytes child) (has_eight_bytes child) some) [
      | inl four ↦ by_four P (refl, refl) (refl, refl) (refl, refl) (refl, refl) child four
      | inr eight ↦ by_eight P (refl, refl) (refl, refl) (refl, refl, refl) (refl, refl, refl) (refl, refl) child eight
    ]

all_read : {X : Type 0} (R : ℕ → X → ℕ → Type 0) (e p : ℕ) (r : Result (List X) PodFault) → RunRight R (λ q f. ⊥) e p r
    → AreAfter R p (list_of r) e
all_read R e p (Ok xs) h = h
all_read R e p (Err f) h = absurd h.4

elements_right : (bytes : List ℕ) (child : ℕ) → 0 < child_size child → (p e : ℕ) → p ≤ e → (e - p) % child_size child ≡ 0
    → AreAfter (IsElementAt bytes child) p (list_of (run (element_step bytes child) e p e)) e
elements_right bytes child some p e l whole =
    let right : (q : ℕ) → q < e → (e - q) % child_size child ≡ 0
    → StepRight (IsElementAt bytes child) (λ q f. ⊥) (λ q. (e - q) % child_size child ≡ 0) e q (element_step bytes child q) = λ q m w.
    let less = whole_less (child_size child) e q (four_or_eight child some) w m in
    let v = scalar bytes child q in (
      (refl, subst (λ (x : Pod-F Pod Control Prop). IsScalarAt bytes child q x) (sym (out-roll-Pod v)) (scalar_right bytes q child some)),
      omega (arith, some),
      less.0,
      less.1,
    ) in
    all_read (IsElementAt bytes child) e p (run (element_step bytes child) e p e)
    (run_right (IsElementAt bytes child) (λ q f. ⊥) (λ q. (e - q) % child_size child ≡ 0) (element_step bytes child) e right e p l
    (omega arith) whole)

pub children_right : (bytes : List ℕ) (p c e : ℕ) → c + 8 ≤ e → first_failed (children_checks bytes p c e) ≡ None
    → HasChildren bytes c e (child_of bytes c) (values_of bytes c e)
children_right bytes p c e l h =
    elim (cases_Bool (is_bare bytes c)) [
      | inl bare ↦
          let both = and_parts (u32_at bytes c == 0) (nat_le (u32_at bytes (c + 4)) 1) bare in
          let checks = rw bare at h in
          let end = passed (not (e == c + 8)) (Uneven p) [] checks in
          rw bare (inl (record {
            none = refl;
            type_one = refl;
            header = (eqb-true (u32_at bytes c) 0 both.0, leb-true (u32_at bytes (c + 4)) 1 both.1);
            end = same_number e (c + 8) end.0;
          }))
      | inr full ↦
          let checks = rw full at h in
          let child = u32_at bytes (c + 4) in
          let a = passed (child_size child == 0) (TypeUnknown (c + 4) child)
          ((not (u32_at bytes c == child_size child), Size c) ∷ (not ((e - (c + 8)) % child_size child == 0), Uneven p) ∷ []) checks in
          let b = passed (not (u32_at bytes c == child_size child)) (Size c)
          ((not ((e - (c + 8)) % child_size child == 0), Uneven p) ∷ []) a.1 in
          let d = passed (not ((e - (c + 8)) % child_size child == 0)) (Uneven p) [] b.1 in
          let none = eqb-false (child_size child) 0 a.0 in
          let some : 0 < child_size child = omega (arith, none) in
          rw full (inr (record {
            allowed = some;
            header = (same_number (u32_at bytes c) (child_size child) b.0, refl);
            elements = elements_right bytes child some (c + 8) e l (same_number ((e - (c + 8)) % child_size child) 0 d.0);
          }))
    ]
