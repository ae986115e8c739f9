-- A spelled body passes its checks, and is the decoder's.
use Rattle.std.proofs.Common.{◌≡◌, ℕ, ◌+◌, ◌≤◌, ◌<◌, nat_lt, inl, inr, List, None, Result, Ok, Err, refl, ap, subst, ◌∙◌, arith}
use Rattle.std.proofs.lemmas.Bool.{le-ltb, eq-eqb, ne_eqb, and_right, cond-false}
use Rattle.pod_codec.specs.declared.pod.Pod.{Pod}
use Rattle.pod_codec.specs.declared.pod.Prop.{Prop}
use Rattle.pod_codec.specs.declared.pod.Control.{Control}
use Rattle.pod_codec.specs.declared.pod.ChoiceKind.{ChoiceKind}
use Rattle.pod_codec.specs.declared.pod.ChoiceKind.TheVariants as k
use Rattle.pod_codec.specs.declared.pod.Pod.TheOpen.{Pod-F}
use Rattle.pod_codec.specs.declared.pod.Pod.TheViews.{out-Prop, roll-Prop, roll-out-Prop, out-Control, roll-Control, roll-out-Control}
use Rattle.pod_codec.specs.declared.fault.PodFault.{PodFault}
use Rattle.pod_codec.specs.declared.fault.PodFault.TheVariants.{Short}
use Rattle.pod_codec.specs.PodType.{child_size, choice_number}
use Rattle.pod_codec.specs.Places.{u32_at}
use Rattle.pod_codec.specs.Spelling.{IsPropAt, IsControlAt, IsBodyAt}
use Rattle.pod_codec.specs.Checks.{first_failed, body_checks, array_checks, choice_checks, children_checks}
use Rattle.pod_codec.proofs.Decoder.{mapped, prop_of, control_of, keyed_step, body_of}
use Rattle.pod_codec.proofs.DecoderLemmas.{reaches, run_found}
use Rattle.pod_codec.proofs.LeafLemmas.{children_found, kind_found}

-- what a step must do with what is held: answer it, which has a header at least and ends within e
abbrev pub IsFixed : (ℕ → Pod → ℕ → Type 0) → (ℕ → Result (Pod × ℕ) PodFault) → ℕ → Type 0
IsFixed Held step e = (q : ℕ) (pod : Pod) (m : ℕ) → Held q pod m → (step q ≡ Ok (pod, m)) × (q + 8 ≤ m) × (m ≤ e)

pub pod_fixed : (Held : ℕ → Pod → ℕ → Type 0) (step : ℕ → Result (Pod × ℕ) PodFault) (e : ℕ) → IsFixed Held step e
    → (q : ℕ) (pod : Pod) (m : ℕ) → Held q pod m → (step q ≡ Ok (pod, m)) × (q < m)
pod_fixed Held step e fixed q pod m h = let s = fixed q pod m h in (s.0, omega (arith, s.1))

-- a thing made of two numbers and a POD, as it is at q
abbrev pub IsMade : {X : Type 0} → (ℕ → Pod → ℕ → Type 0) → (ℕ → X → ℕ → Type 0) → (ℕ → Pod × ℕ → X × ℕ) → Type 0
IsMade {X = X} Held At made = (q : ℕ) (x : X) (m : ℕ) → At q x m → (pod : Pod) × Held (q + 8) pod m × (made q (pod, m) ≡ (x, m))

same_prop : (bytes : List ℕ) (q : ℕ) (prop : Prop) → (out-Prop prop).key ≡ u32_at bytes q → (out-Prop prop).flags ≡ u32_at bytes (q + 4)
    → roll-Prop (record { key = u32_at bytes q; flags = u32_at bytes (q + 4); value = (out-Prop prop).value }) ≡ prop
same_prop bytes q prop key flags = rw (← key, ← flags) (roll-out-Prop prop)

same_control : (bytes : List ℕ) (q : ℕ) (control : Control) → (out-Control control).offset ≡ u32_at bytes q
    → (out-Control control).kind ≡ u32_at bytes (q + 4)
    → roll-Control (record { offset = u32_at bytes q; kind = u32_at bytes (q + 4); value = (out-Control control).value }) ≡ control
same_control bytes q control offset kind = rw (← offset, ← kind) (roll-out-Control control)

pub prop_made : (Held : ℕ → Pod → ℕ → Type 0) (bytes : List ℕ) → IsMade Held (IsPropAt Held bytes) (prop_of bytes)
prop_made Held bytes q prop m h = ((out-Prop prop).value, h.2, ap (λ (x : Prop). (x, m)) (same_prop bytes q prop h.0 h.1))

pub control_made : (Held : ℕ → Pod → ℕ → Type 0) (bytes : List ℕ) → IsMade Held (IsControlAt Held bytes) (control_of bytes)
control_made Held bytes q control m h =
    ((out-Control control).value, h.2, ap (λ (x : Control). (x, m)) (same_control bytes q control h.0 h.1))

pub keyed_fixed : {X : Type 0} (Held : ℕ → Pod → ℕ → Type 0) (At : ℕ → X → ℕ → Type 0) (made : ℕ → Pod × ℕ → X × ℕ)
    (step : ℕ → Result (Pod × ℕ) PodFault) (e : ℕ) → IsMade Held At made → IsFixed Held step e
    → (q : ℕ) (x : X) (m : ℕ) → At q x m → (keyed_step made step e q ≡ Ok (x, m)) × (q < m)
keyed_fixed Held At made step e is fixed q x m h =
    let k = is q x m h in
    let s = fixed (q + 8) k.0 m k.1 in (
      cond-false (nat_lt e (q + 8)) (Err (Short q)) (mapped (made q) (step (q + 8))) (le-ltb e (q + 8) (omega (arith, s.1, s.2)))
          ∙ ap (mapped (made q)) s.0
          ∙ ap Ok k.2,
      omega (arith, s.1),
    )

-- the decoder's body
pub body_found : (Held : ℕ → Pod → ℕ → Type 0) (step : ℕ → Result (Pod × ℕ) PodFault) (bytes : List ℕ) (t b e : ℕ) → IsFixed Held step e
    → (v : Pod-F Pod Control Prop) → IsBodyAt Held bytes t b e v → body_of step bytes t b e ≡ Ok v
body_found Held step bytes t b e fixed Pod-F.None h = rw h.0 refl
body_found Held step bytes t b e fixed (Pod-F.Text text) h = rw (h.0, h.3) refl
body_found Held step bytes t b e fixed (Pod-F.Bytes text) h = rw (h.0, h.1) refl
body_found Held step bytes t b e fixed (Pod-F.Bitmap text) h = rw (h.0, h.1) refl
body_found Held step bytes t b e fixed (Pod-F.Array child values) h =
    elim h.1 [
      | inl n ↦ rw (h.0, n.0, eq-eqb b b refl, n.1, n.2) refl
      | inr s ↦
          let c = children_found bytes b b e child values s in
          rw (h.0, ne_eqb e b (λ z. omega (arith, c.header, z)), c.one_child, c.all_values) refl
    ]
body_found Held step bytes t b e fixed (Pod-F.Struct fields) h =
    rw h.0 (ap (mapped Pod-F.Struct) (run_found Held step (pod_fixed Held step e fixed) e b e fields h.1 (omega arith)))
body_found Held step bytes t b e fixed (Pod-F.Object object id props) h =
    rw (h.0, h.1, h.2) (ap (mapped (Pod-F.Object (u32_at bytes b) (u32_at bytes (b + 4))))
    (run_found (IsPropAt Held bytes) (keyed_step (prop_of bytes) step e)
    (keyed_fixed Held (IsPropAt Held bytes) (prop_of bytes) step e (prop_made Held bytes) fixed) e (b + 8) e props h.3 (omega arith)))
body_found Held step bytes t b e fixed (Pod-F.Choice kind flags child values) h =
    let c = children_found bytes b (b + 8) e child values h.3 in
    rw (h.0, kind_found kind (u32_at bytes b) h.1, h.2, c.one_child, c.all_values) refl
body_found Held step bytes t b e fixed (Pod-F.Sequence unit controls) h =
    rw (h.0, h.1) (ap (mapped (Pod-F.Sequence (u32_at bytes b)))
    (run_found (IsControlAt Held bytes) (keyed_step (control_of bytes) step e)
    (keyed_fixed Held (IsControlAt Held bytes) (control_of bytes) step e (control_made Held bytes) fixed) e (b + 8) e controls h.2
    (omega arith)))
body_found Held step bytes t b e fixed (Pod-F.Bool x) h = rw (h.1.0, h.1.1) refl
body_found Held step bytes t b e fixed (Pod-F.Id n) h = rw (h.1.0, h.1.1) refl
body_found Held step bytes t b e fixed (Pod-F.Int n) h = rw (h.1.0, h.1.1) refl
body_found Held step bytes t b e fixed (Pod-F.Long n) h = rw (h.1.0, h.1.1) refl
body_found Held step bytes t b e fixed (Pod-F.FloatBits n) h = rw (h.1.0, h.1.1) refl
body_found Held step bytes t b e fixed (Pod-F.DoubleBits n) h = rw (h.1.0, h.1.1) refl
body_found Held step bytes t b e fixed (Pod-F.Rectangle width height) h = rw (h.1.0, h.1.1, h.1.2) refl
body_found Held step bytes t b e fixed (Pod-F.Fraction num denom) h = rw (h.1.0, h.1.1, h.1.2) refl
body_found Held step bytes t b e fixed (Pod-F.Fd n) h = rw (h.1.0, h.1.1) refl

-- its checks
size_of : (p size t : ℕ) (n : ℕ) → p + 8 + size ≡ p + 8 + child_size t → t ≡ n → size ≡ child_size n
size_of p size t n e h = omega (arith, e, ap child_size h)

choice_checked : (bytes : List ℕ) (p size : ℕ) → 16 ≤ size → u32_at bytes (p + 8) ≤ 4
    → first_failed (children_checks bytes p (p + 16) (p + 8 + size)) ≡ None → first_failed (choice_checks bytes p size) ≡ None
choice_checked bytes p size long kind rest = rw (le-ltb size 16 long, le-ltb 4 (u32_at bytes (p + 8)) kind) rest

array_checked : (bytes : List ℕ) (p size : ℕ) → 8 ≤ size → first_failed (children_checks bytes p (p + 8) (p + 8 + size)) ≡ None
    → first_failed (array_checks bytes p size) ≡ None
array_checked bytes p size long rest = rw (and_right (nat_lt 0 size) (nat_lt size 8) (le-ltb size 8 long), ne_eqb size 0 (λ z. omega arith))
    rest

kind_small : (kind : ChoiceKind) (n : ℕ) → choice_number kind ≡ n → n ≤ 4
kind_small k.None n h = omega (arith, h)
kind_small k.Range n h = omega (arith, h)
kind_small k.Step n h = omega (arith, h)
kind_small k.Enum n h = omega (arith, h)
kind_small k.Flags n h = omega (arith, h)

pub checks_found : (Held : ℕ → Pod → ℕ → Type 0) (step : ℕ → Result (Pod × ℕ) PodFault) (bytes : List ℕ) (p size t : ℕ)
    → IsFixed Held step (p + 8 + size) → (v : Pod-F Pod Control Prop) → IsBodyAt Held bytes t (p + 8) (p + 8 + size) v
    → first_failed (body_checks bytes p size t) ≡ None
checks_found Held step bytes p size t fixed Pod-F.None h = let z : size ≡ 0 = omega (arith, h.1) in rw (h.0, z) refl
checks_found Held step bytes p size t fixed (Pod-F.Text text) h = rw (h.0, ne_eqb size 0 (λ z. omega (arith, h.1)), h.2) refl
checks_found Held step bytes p size t fixed (Pod-F.Bytes text) h = rw h.0 refl
checks_found Held step bytes p size t fixed (Pod-F.Bitmap text) h = rw h.0 refl
checks_found Held step bytes p size t fixed (Pod-F.Array child values) h =
    elim h.1 [
      | inl n ↦ let z : size ≡ 0 = omega (arith, n.0) in rw (h.0, z) refl
      | inr s ↦
          let c = children_found bytes p (p + 8) (p + 8 + size) child values s in
          rw (h.0, array_checked bytes p size (omega (arith, c.header)) c.checks) refl
    ]
checks_found Held step bytes p size t fixed (Pod-F.Struct fields) h = rw h.0 refl
checks_found Held step bytes p size t fixed (Pod-F.Object object id props) h =
    let r = reaches (IsPropAt Held bytes) (keyed_step (prop_of bytes) step (p + 8 + size))
    (keyed_fixed Held (IsPropAt Held bytes) (prop_of bytes) step (p + 8 + size) (prop_made Held bytes) fixed)
    (p + 8 + 8) props (p + 8 + size) h.3 in
    rw (h.0, le-ltb size 8 (omega (arith, r))) refl
checks_found Held step bytes p size t fixed (Pod-F.Choice kind flags child values) h =
    let c = children_found bytes p (p + 8 + 8) (p + 8 + size) child values h.3 in
    rw (
      h.0,
      choice_checked bytes p size (omega (arith, c.header)) (kind_small kind (u32_at bytes (p + 8)) h.1)
          (subst (λ (n : ℕ). first_failed (children_checks bytes p n (p + 8 + size)) ≡ None) (omega arith) c.checks),
    ) refl
checks_found Held step bytes p size t fixed (Pod-F.Sequence unit controls) h =
    let r = reaches (IsControlAt Held bytes) (keyed_step (control_of bytes) step (p + 8 + size))
    (keyed_fixed Held (IsControlAt Held bytes) (control_of bytes) step (p + 8 + size) (control_made Held bytes) fixed)
    (p + 8 + 8) controls (p + 8 + size) h.2 in
    rw (h.0, le-ltb size 8 (omega (arith, r))) refl
checks_found Held step bytes p size t fixed (Pod-F.Bool x) h = rw (h.1.0, size_of p size t 2 h.0 h.1.0) refl
checks_found Held step bytes p size t fixed (Pod-F.Id n) h = rw (h.1.0, size_of p size t 3 h.0 h.1.0) refl
checks_found Held step bytes p size t fixed (Pod-F.Int n) h = rw (h.1.0, size_of p size t 4 h.0 h.1.0) refl
checks_found Held step bytes p size t fixed (Pod-F.Long n) h = rw (h.1.0, size_of p size t 5 h.0 h.1.0) refl
checks_found Held step bytes p size t fixed (Pod-F.FloatBits n) h = rw (h.1.0, size_of p size t 6 h.0 h.1.0) refl
checks_found Held step bytes p size t fixed (Pod-F.DoubleBits n) h = rw (h.1.0, size_of p size t 7 h.0 h.1.0) refl
checks_found Held step bytes p size t fixed (Pod-F.Rectangle width height) h = rw (h.1.0, size_of p size t 10 h.0 h.1.0) refl
checks_found Held step bytes p size t fixed (Pod-F.Fraction num denom) h = rw (h.1.0, size_of p size t 11 h.0 h.1.0) refl
checks_found Held step bytes p size t fixed (Pod-F.Fd n) h = rw (h.1.0, size_of p size t 18 h.0 h.1.0) refl
