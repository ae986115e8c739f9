-- The first fault of bytes that spell no POD: the checks of a POD in their order, then those of
-- what it holds. Source: SPA POD, "Types"; spa/pod/pod.h; the order of the checks is this
-- project's.
use Rattle.std.specs.Prelude.{◌≡◌, ℕ, zero, suc, ◌+◌, ◌≤◌, ◌<◌, ◌⊎◌, List, length, Some, None, Result, Ok, Err}
use Rattle.pw_lists.specs.Limits.{depth_limit}
use Rattle.pod_codec.specs.declared.fault.PodFault.{PodFault}
use Rattle.pod_codec.specs.declared.fault.PodFault.TheVariants.{Short, Deep, Memory}
use Rattle.pod_codec.specs.Places.{u32_at, AreAfter}
use Rattle.pod_codec.specs.Spelling.{IsPropAt, IsControlAt, SpellsAt}
use Rattle.pod_codec.specs.declared.pod.Pod.{Pod}
use Rattle.pod_codec.specs.declared.pod.Prop.{Prop}
use Rattle.pod_codec.specs.declared.pod.Control.{Control}
use Rattle.pod_codec.specs.Checks.{first_failed, header_checks, body_checks, outer_checks}

-- a field of the struct from b to e is at fault, and those before it are spelled
abbrev pub IsFieldFault : (ℕ → Pod → ℕ → Type 0) → (ℕ → PodFault → Type 0) → ℕ
    → ℕ → PodFault → Type 0
IsFieldFault Held Faults b e f = (fields : List Pod) × (q : ℕ) × AreAfter Held b fields q
    × (q < e) × Faults q f

-- the two numbers in front of a POD at q are not there, or the POD after them is at fault
abbrev pub IsKeyedFault : (ℕ → PodFault → Type 0) → ℕ → ℕ → PodFault → Type 0
IsKeyedFault Faults e q f = ((e < q + 8) × (f ≡ Short q)) ⊎ ((q + 8 ≤ e) × Faults (q + 8) f)

-- so of a property of the object, and of a control of the sequence, from b to e
abbrev pub IsPropFault : (ℕ → Pod → ℕ → Type 0) → (ℕ → PodFault → Type 0)
    → List ℕ → ℕ → ℕ → PodFault
    → Type 0
IsPropFault Held Faults bytes b e f = (props : List Prop) × (q : ℕ)
    × AreAfter (IsPropAt Held bytes) b props q × (q < e)
    × IsKeyedFault Faults e q f

abbrev pub IsControlFault : (ℕ → Pod → ℕ → Type 0) → (ℕ → PodFault → Type 0)
    → List ℕ → ℕ → ℕ → PodFault
    → Type 0
IsControlFault Held Faults bytes b e f = (controls : List Control) × (q : ℕ)
    × AreAfter (IsControlAt Held bytes) b controls q × (q < e) × IsKeyedFault Faults e q f

abbrev pub IsHeldFault : (ℕ → Pod → ℕ → Type 0) → (ℕ → PodFault → Type 0)
    → List ℕ → ℕ → ℕ → ℕ
    → PodFault → Type 0
IsHeldFault Held Faults bytes t b e f = ((t ≡ 14) × IsFieldFault Held Faults b e f)
    ⊎ (((t ≡ 15) × IsPropFault Held Faults bytes (b + 8) e f)
    ⊎ ((t ≡ 16) × IsControlFault Held Faults bytes (b + 8) e f))

-- the body's first check that fails, or, where no check does, a fault of what is held
abbrev pub IsBodyFault : (ℕ → Pod → ℕ → Type 0) → (ℕ → PodFault → Type 0)
    → List ℕ → ℕ → ℕ → ℕ
    → PodFault → Type 0
IsBodyFault Held Faults bytes p size t f = (first_failed (body_checks bytes p size t) ≡ Some f)
    ⊎ ((first_failed (body_checks bytes p size t) ≡ None)
    × IsHeldFault Held Faults bytes t (p + 8) (p + 8 + size) f)

-- FIRST FAULT of the POD at p, within the end e, with `left` levels left
unfoldable pub FaultsAt : ℕ → List ℕ → ℕ → ℕ → PodFault → Type 0
FaultsAt zero bytes p e f = f ≡ Deep p
FaultsAt (suc left) bytes p e f =
    let size = u32_at bytes p in
    (first_failed (header_checks bytes p e) ≡ Some f)
    ⊎ ((first_failed (header_checks bytes p e) ≡ None)
    × IsBodyFault (λ a x m. SpellsAt left bytes a (p + 8 + size) x m)
    (λ a g. FaultsAt left bytes a (p + 8 + size) g) bytes p size (u32_at bytes (p + 4)) f)

-- a fault is one of these, or that memory ran out
abbrev pub Fails : {X : Type 0} → Result X PodFault → (PodFault → Type 0) → Type 0
Fails (Ok x) P = Unit {0}
Fails (Err f) P = (f ≡ Memory) ⊎ P f

-- FIRST FAULT of all bytes, at most 16 deep
abbrev pub IsFirstFault : List ℕ → PodFault → Type 0
IsFirstFault bytes f = (first_failed (outer_checks bytes) ≡ Some f)
    ⊎ ((first_failed (outer_checks bytes) ≡ None)
    × FaultsAt depth_limit bytes 0 (length bytes) f)
