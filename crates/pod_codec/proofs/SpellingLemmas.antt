-- A front spells one value, or has one first fault, and never both.
use Rattle.std.proofs.Common.{◌≡◌, ℕ, zero, suc, ◌+◌, ◌≤◌, nat_lt, inl, inr, List, length, None, Result, Ok, Err, refl}
use Rattle.std.proofs.Common.{sym, ap, ◌∙◌, arith}
use Rattle.std.proofs.lemmas.Bool.{lt-ltb, le-ltb, cond-true, cond-false}
use Rattle.std.specs.Prelude.{IfOk}
use Rattle.pod_codec.specs.declared.pod.Pod.{Pod}
use Rattle.pod_codec.specs.declared.pod.Pod.TheOpen.{Pod-F}
use Rattle.pod_codec.specs.declared.pod.Pod.TheViews.{out-Pod, roll-out-Pod}
use Rattle.pod_codec.specs.declared.fault.PodFault.{PodFault}
use Rattle.pod_codec.specs.declared.fault.PodFault.TheVariants.{Short}
use Rattle.pod_codec.specs.Framing.{pad8}
use Rattle.pod_codec.specs.Places.{u32_at}
use Rattle.pod_codec.specs.Spelling.{IsPropAt, IsControlAt, SpellsAt, FrontSpells}
use Rattle.pod_codec.specs.Checks.{first_failed, header_checks}
use Rattle.pod_codec.specs.FirstFault.{IsKeyedFault, IsHeldFault, FaultsAt, Fails, IsFirstFault}
use Rattle.pod_codec.specs.ReadAnswer.{IsReadAs, IsRefusedAs}
use Rattle.pod_codec.proofs.Decoder.{mapped, prop_of, control_of, keyed_step, body_of, decoded, decoded_front}
use Rattle.pod_codec.proofs.DecoderLemmas.{run_fault}
use Rattle.pod_codec.proofs.BodyLemmas.{IsFixed, pod_fixed, prop_made, control_made, keyed_fixed, body_found, checks_found}
use Rattle.pod_codec.proofs.ReadingLemmas.{outer_good}
use Rattle.pod_codec.specs.SoundChoices.{HasSoundChoices}
use Rattle.pod_codec.proofs.SoundChoicesLemmas.{sound_front}

-- a header that is there, and whose body is
header_good : (bytes : List ℕ) (p e : ℕ) → p + 8 + pad8 (u32_at bytes p) ≤ e → first_failed (header_checks bytes p e) ≡ None
header_good bytes p e h = rw (le-ltb e (p + 8) (omega arith), le-ltb e (p + 8 + pad8 (u32_at bytes p)) h) refl

-- what is spelled is what the decoder answers
pub spelled_decoded : (left : ℕ) (bytes : List ℕ) (p e : ℕ) (pod : Pod) (q : ℕ) → SpellsAt left bytes p e pod q
    → (decoded left bytes p e ≡ Ok (pod, q)) × (p + 8 ≤ q) × (q ≤ e)
unfolding SpellsAt decoded
spelled_decoded zero bytes p e pod q h = absurd h
spelled_decoded (suc left) bytes p e pod q h =
    let size = u32_at bytes p in
    let t = u32_at bytes (p + 4) in
    let end = p + 8 + size in
    let held = λ (a : ℕ) (x : Pod) (m : ℕ). SpellsAt left bytes a end x m in
    let step = λ (a : ℕ). decoded left bytes a end in
    let fixed : IsFixed held step end = λ a x m s. spelled_decoded left bytes a end x m s in
    let head = header_good bytes p e (omega (arith, h.0, h.1)) in
    let checks = checks_found held step bytes p size t fixed (out-Pod pod) h.2 in
    let body = body_found held step bytes t (p + 8) end fixed (out-Pod pod) h.2 in
    (rw (head, checks, body, roll-out-Pod pod) (ap (λ (n : ℕ). Ok (pod, n)) (sym h.1)), omega (arith, h.1), h.0)

-- a property or a control that is not there, or whose value is at fault
keyed_fails : {X : Type 0} (made : ℕ → Pod × ℕ → X × ℕ) (Faults : ℕ → PodFault → Type 0) (step : ℕ → Result (Pod × ℕ) PodFault)
    (e q : ℕ) (f : PodFault) → ((a : ℕ) (g : PodFault) → Faults a g → step a ≡ Err g)
    → IsKeyedFault Faults e q f → keyed_step made step e q ≡ Err f
keyed_fails made Faults step e q f fails (inl x) =
    cond-true (nat_lt e (q + 8)) (Err (Short q)) (mapped (made q) (step (q + 8))) (lt-ltb e (q + 8) x.0) ∙ ap Err (sym x.1)
keyed_fails made Faults step e q f fails (inr y) =
    cond-false (nat_lt e (q + 8)) (Err (Short q)) (mapped (made q) (step (q + 8))) (le-ltb e (q + 8) y.0)
    ∙ ap (mapped (made q)) (fails (q + 8) f y.1)

-- a fault of what is held is the decoder's
held_fault : (Held : ℕ → Pod → ℕ → Type 0) (Faults : ℕ → PodFault → Type 0) (step : ℕ → Result (Pod × ℕ) PodFault) (bytes : List ℕ)
    (t b e : ℕ) (f : PodFault) → IsFixed Held step e
    → ((a : ℕ) (g : PodFault) → Faults a g → step a ≡ Err g) → IsHeldFault Held Faults bytes t b e f → body_of step bytes t b e ≡ Err f
held_fault Held Faults step bytes t b e f fixed fails (inl x) =
    let h = x.1 in
    rw x.0 (ap (mapped Pod-F.Struct) (run_fault Held step (pod_fixed Held step e fixed) e b e h.0 h.1 f h.2 h.3 (fails h.1 f h.4)
    (omega arith)))
held_fault Held Faults step bytes t b e f fixed fails (inr (inl y)) =
    let h = y.1 in
    rw y.0 (ap (mapped (Pod-F.Object (u32_at bytes b) (u32_at bytes (b + 4))))
    (run_fault (IsPropAt Held bytes) (keyed_step (prop_of bytes) step e)
    (keyed_fixed Held (IsPropAt Held bytes) (prop_of bytes) step e (prop_made Held bytes) fixed) e (b + 8) e h.0 h.1 f h.2 h.3
    (keyed_fails (prop_of bytes) Faults step e h.1 f fails h.4) (omega arith)))
held_fault Held Faults step bytes t b e f fixed fails (inr (inr y)) =
    let h = y.1 in
    rw y.0 (ap (mapped (Pod-F.Sequence (u32_at bytes b)))
    (run_fault (IsControlAt Held bytes) (keyed_step (control_of bytes) step e)
    (keyed_fixed Held (IsControlAt Held bytes) (control_of bytes) step e (control_made Held bytes) fixed) e (b + 8) e h.0 h.1 f h.2 h.3
    (keyed_fails (control_of bytes) Faults step e h.1 f fails h.4) (omega arith)))

-- a first fault is what the decoder answers
pub faulty_decoded : (left : ℕ) (bytes : List ℕ) (p e : ℕ) (f : PodFault) → FaultsAt left bytes p e f → decoded left bytes p e ≡ Err f
unfolding FaultsAt decoded
faulty_decoded zero bytes p e f h = ap Err (sym h)
faulty_decoded (suc left) bytes p e f (inl x) = rw x refl
faulty_decoded (suc left) bytes p e f (inr y) =
    let size = u32_at bytes p in
    let t = u32_at bytes (p + 4) in
    let end = p + 8 + size in
    let held = λ (a : ℕ) (x : Pod) (m : ℕ). SpellsAt left bytes a end x m in
    let faults = λ (a : ℕ) (g : PodFault). FaultsAt left bytes a end g in
    let step = λ (a : ℕ). decoded left bytes a end in
    let fixed : IsFixed held step end = λ a x m s. spelled_decoded left bytes a end x m s in
    let fails : (a : ℕ) (g : PodFault) → faults a g → step a ≡ Err g = λ a g s. faulty_decoded left bytes a end g s in
    elim y.1 [
      | inl c ↦ rw (y.0, c) refl
      | inr d ↦ rw (y.0, d.0, held_fault held faults step bytes t (p + 8) end f fixed fails d.1) refl
    ]

pub front_decoded : (bytes : List ℕ) (pod : Pod) (size : ℕ) → FrontSpells bytes pod size → decoded_front bytes ≡ Ok (pod, size)
front_decoded bytes pod size h =
    let s = spelled_decoded 16 bytes 0 (length bytes) pod size h.front in
    rw (outer_good bytes (omega (arith, s.1, s.2)) h.limit) s.0

pub first_decoded : (bytes : List ℕ) (f : PodFault) → IsFirstFault bytes f → decoded_front bytes ≡ Err f
first_decoded bytes f (inl x) = rw x refl
first_decoded bytes f (inr y) = rw y.0 (faulty_decoded 16 bytes 0 (length bytes) f y.1)

same_parts : (r : Result (Pod × ℕ) PodFault) (x y : Pod × ℕ) → r ≡ Ok x → r ≡ Ok y → (x.0 ≡ y.0) × (x.1 ≡ y.1)
same_parts r x y h k = let e : x ≡ y = cc in (ap (λ (z : Pod × ℕ). z.0) e, ap (λ (z : Pod × ℕ). z.1) e)

same_fault : (r : Result (Pod × ℕ) PodFault) (f g : PodFault) → r ≡ Err f → r ≡ Err g → f ≡ g
same_fault r f g h k = cc

apart : (r : Result (Pod × ℕ) PodFault) (x : Pod × ℕ) (f : PodFault) → r ≡ Ok x → r ≡ Err f → ⊥
apart r x f h k = cc

-- an answer that is right is the only one
pub only_read : (r : Result (Pod × ℕ) PodFault) (bytes : List ℕ) → IfOk r (λ x. FrontSpells bytes x.0 x.1) → Fails r (IsFirstFault bytes)
    → (pod : Pod) (size : ℕ) → FrontSpells bytes pod size → IsReadAs r pod size
only_read (Ok x) bytes found fault pod size h = same_parts (decoded_front bytes) x (pod, size) (front_decoded bytes x.0 x.1 found)
    (front_decoded bytes pod size h)
only_read (Err f) bytes found (inl memory) pod size h = memory
only_read (Err f) bytes found (inr g) pod size h =
    absurd (apart (decoded_front bytes) (pod, size) f (front_decoded bytes pod size h) (first_decoded bytes f g))

pub only_refused : (r : Result (Pod × ℕ) PodFault) (bytes : List ℕ) → IfOk r (λ x. FrontSpells bytes x.0 x.1) → Fails r (IsFirstFault bytes)
    → (f : PodFault) → IsFirstFault bytes f → IsRefusedAs r f
only_refused (Ok x) bytes found fault f h = apart (decoded_front bytes) x f (front_decoded bytes x.0 x.1 found) (first_decoded bytes f h)
only_refused (Err g) bytes found (inl memory) f h = inl memory
only_refused (Err g) bytes found (inr k) f h = inr
    (same_fault (decoded_front bytes) g f (first_decoded bytes g k) (first_decoded bytes f h))

-- a value that is read has sound choices
pub only_sound : (r : Result (Pod × ℕ) PodFault) (bytes : List ℕ) → IfOk r (λ x. FrontSpells bytes x.0 x.1)
    → IfOk r (λ x. HasSoundChoices x.0)
only_sound (Ok x) bytes found = sound_front bytes x.0 x.1 found
only_sound (Err f) bytes found = tt
