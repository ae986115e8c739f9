-- Each input has a spelling or a first fault: the decoder's answer is right.
use Rattle.std.proofs.Common.{◌≡◌, ℕ, zero, suc, ◌+◌, ◌≤◌, nat_lt, inl, inr, List, [], ◌∷◌, length, Option, Some, None, Result, Ok, Err}
use Rattle.std.proofs.Common.{refl, sym, subst, arith}
use Rattle.std.proofs.lemmas.Bool.{ltb-false}
use Rattle.pod_codec.specs.declared.pod.Pod.{Pod}
use Rattle.pod_codec.specs.declared.pod.Prop.{Prop}
use Rattle.pod_codec.specs.declared.pod.Control.{Control}
use Rattle.pod_codec.specs.declared.pod.Pod.TheOpen.{Pod-F}
use Rattle.pod_codec.specs.declared.pod.Pod.TheViews.{roll-Pod, out-roll-Pod}
use Rattle.pod_codec.specs.declared.fault.PodFault.{PodFault}
use Rattle.pod_codec.specs.declared.fault.PodFault.TheVariants.{Short, Large}
use Rattle.pod_codec.specs.Framing.{pad8}
use Rattle.pod_codec.specs.Places.{u32_at}
use Rattle.pod_codec.specs.Spelling.{IsBodyAt, SpellsAt}
use Rattle.pod_codec.specs.Checks.{first_failed, header_checks, body_checks, outer_checks}
use Rattle.pod_codec.specs.FirstFault.{FaultsAt}
use Rattle.pod_codec.proofs.Decoder.{guarded, mapped, body_of, decoded}
use Rattle.pod_codec.proofs.AnswerLemmas.{StepRight}
use Rattle.pod_codec.proofs.ChildrenChecksLemmas.{passed}
use Rattle.pod_codec.proofs.SpellingLemmas.{spelled_decoded}
use Rattle.pod_codec.specs.ReadAnswer.{HasAnswer}
use Rattle.pod_codec.proofs.BodyChecksLemmas.{BodyRight, body_right}

-- the decoder's answer is right
abbrev pub PodRight : ℕ → List ℕ → ℕ → ℕ → Result (Pod × ℕ) PodFault → Type 0
PodRight left bytes p e (Ok x) = SpellsAt left bytes p e x.0 x.1
PodRight left bytes p e (Err f) = FaultsAt left bytes p e f

guard_right : (o : Option PodFault) (r : Result (Pod × ℕ) PodFault) (P : Result (Pod × ℕ) PodFault → Type 0)
    → ((f : PodFault) → o ≡ Some f → P (Err f)) → (o ≡ None → P r) → P (guarded o r)
guard_right (Some f) r P a b = a f refl
guard_right None r P a b = b refl

step_right : (left : ℕ) (bytes : List ℕ) (e q : ℕ) (r : Result (Pod × ℕ) PodFault) → PodRight left bytes q e r
    → StepRight (λ a x m. SpellsAt left bytes a e x m) (λ a g. FaultsAt left bytes a e g) (λ m. Unit {0}) e q r
step_right left bytes e q (Ok x) h = let s = spelled_decoded left bytes q e x.0 x.1 h in (h, omega (arith, s.1), s.2, tt)
step_right left bytes e q (Err f) h = h

header_there : (bytes : List ℕ) (p e : ℕ) → first_failed (header_checks bytes p e) ≡ None → p + 8 + pad8 (u32_at bytes p) ≤ e
header_there bytes p e h =
    let a = passed (nat_lt e (p + 8)) (Short p) ((nat_lt e (p + 8 + pad8 (u32_at bytes p)), Short p) ∷ []) h in
    ltb-false e (p + 8 + pad8 (u32_at bytes p)) (passed (nat_lt e (p + 8 + pad8 (u32_at bytes p))) (Short p) [] a.1).0

whole_right : (left : ℕ) (bytes : List ℕ) (p e : ℕ) → first_failed (header_checks bytes p e) ≡ None
    → first_failed (body_checks bytes p (u32_at bytes p) (u32_at bytes (p + 4))) ≡ None → (r : Result (Pod-F Pod Control Prop) PodFault)
    → BodyRight (λ a x m. SpellsAt left bytes a (p + 8 + u32_at bytes p) x m)
    (λ a g. FaultsAt left bytes a (p + 8 + u32_at bytes p) g) bytes (u32_at bytes (p + 4)) (p + 8) (p + 8 + u32_at bytes p) r
    → PodRight (suc left) bytes p e (mapped (λ v. (roll-Pod v, p + 8 + pad8 (u32_at bytes p))) r)
unfolding SpellsAt FaultsAt
whole_right left bytes p e head checks (Ok v) h =
    let end = p + 8 + u32_at bytes p in (
      header_there bytes p e head,
      refl,
      subst (λ (w : Pod-F Pod Control Prop). IsBodyAt (λ a x m. SpellsAt left bytes a end x m) bytes
          (u32_at bytes (p + 4)) (p + 8) end w) (sym (out-roll-Pod v)) h,
    )
whole_right left bytes p e head checks (Err f) h = inr (head, inr (checks, h))

pub decoded_right : (left : ℕ) (bytes : List ℕ) (p e : ℕ) → PodRight left bytes p e (decoded left bytes p e)
unfolding SpellsAt FaultsAt decoded
decoded_right zero bytes p e = refl
decoded_right (suc left) bytes p e =
    let size = u32_at bytes p in
    let t = u32_at bytes (p + 4) in
    let end = p + 8 + size in
    let held = λ (a : ℕ) (x : Pod) (m : ℕ). SpellsAt left bytes a end x m in
    let faults = λ (a : ℕ) (g : PodFault). FaultsAt left bytes a end g in
    let step = λ (a : ℕ). decoded left bytes a end in
    let made = mapped {X = Pod-F Pod Control Prop} (λ v. (roll-Pod v, p + 8 + pad8 size)) in
    let body = body_of step bytes t (p + 8) end in
    let right : (q : ℕ) → StepRight held faults (λ m. Unit {0}) end q (step q) =
    λ q. step_right left bytes end q (step q) (decoded_right left bytes q end) in
    guard_right (first_failed (header_checks bytes p e)) (guarded (first_failed (body_checks bytes p size t)) (made body))
    (PodRight (suc left) bytes p e)
    (λ f h. inl h)
    (λ head.
    guard_right (first_failed (body_checks bytes p size t)) (made body) (PodRight (suc left) bytes p e) (λ f h. inr (head, inl h))
    (λ checks. whole_right left bytes p e head checks body (body_right held faults step bytes p size right t checks)))

front_right : (bytes : List ℕ) → first_failed (outer_checks bytes) ≡ None → (r : Result (Pod × ℕ) PodFault)
    → PodRight 16 bytes 0 (length bytes) r → HasAnswer bytes
front_right bytes outer (Ok x) h =
    let a = passed (nat_lt (length bytes) 8) (Short 0) ((nat_lt 1048576 (u32_at bytes 0), Large (u32_at bytes 0)) ∷ []) outer in
    let b = passed (nat_lt 1048576 (u32_at bytes 0)) (Large (u32_at bytes 0)) [] a.1 in
    inl (x.0, x.1, record { front = h; limit = ltb-false 1048576 (u32_at bytes 0) b.0 })
front_right bytes outer (Err f) h = inr (f, inr (outer, h))

outer_right : (bytes : List ℕ) (o : Option PodFault) → first_failed (outer_checks bytes) ≡ o → HasAnswer bytes
outer_right bytes (Some f) h = inr (f, inl h)
outer_right bytes None h = front_right bytes h (decoded 16 bytes 0 (length bytes)) (decoded_right 16 bytes 0 (length bytes))

pub has_answer : (bytes : List ℕ) → HasAnswer bytes
has_answer bytes = outer_right bytes (first_failed (outer_checks bytes)) refl
