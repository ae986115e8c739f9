-- What bytes spell, or their first fault, as a function of the bytes: a spelling and a first fault each fix its
-- value, so that they exclude each other and each is one.
use Rattle.std.proofs.Common.{ℕ, zero, suc, ◌+◌, ◌-◌, ◌==◌, ◌&&◌, not, nat_lt, nat_le, Bool, cond, List, [], ◌∷◌, length, Option, Some}
use Rattle.std.proofs.Common.{None, Result, Ok, Err}
use Rattle.std.specs.Prelude.{slice_range}
use Rattle.std.specs.Int.{w32, w64, cast_signed}
use Rattle.pod_codec.specs.declared.pod.Pod.{Pod}
use Rattle.pod_codec.specs.declared.pod.Prop.{Prop}
use Rattle.pod_codec.specs.declared.pod.Control.{Control}
use Rattle.pod_codec.specs.declared.pod.ChoiceKind.{ChoiceKind}
use Rattle.pod_codec.specs.declared.pod.ChoiceKind.TheVariants as k
use Rattle.pod_codec.specs.declared.pod.Pod.TheOpen.{Pod-F}
use Rattle.pod_codec.specs.declared.pod.Pod.TheViews.{roll-Pod, roll-Prop, roll-Control}
use Rattle.pod_codec.specs.declared.fault.PodFault.{PodFault}
use Rattle.pod_codec.specs.declared.fault.PodFault.TheVariants.{Short, Deep}
use Rattle.pod_codec.specs.PodType.{child_size}
use Rattle.pod_codec.specs.Framing.{pad8}
use Rattle.pod_codec.specs.Places.{u32_at, u64_at}
use Rattle.pod_codec.specs.Checks.{first_failed, header_checks, body_checks, outer_checks}

-- the fault that is found, and else what follows
abbrev pub guarded : {X : Type 0} → Option PodFault → Result X PodFault → Result X PodFault
guarded None r = r
guarded (Some f) r = Err f

abbrev pub mapped : {X Y : Type 0} → (X → Y) → Result X PodFault → Result Y PodFault
mapped g (Ok x) = Ok (g x)
mapped g (Err f) = Err f

-- a thing, and what follows from where it ends
abbrev pub after : {X : Type 0} → (ℕ → Result (List X) PodFault) → Result (X × ℕ) PodFault → Result (List X) PodFault
after rest (Ok x) = mapped (λ xs. x.0 ∷ xs) (rest x.1)
after rest (Err f) = Err f

-- things one after the other from p to e, at most n
abbrev pub run : {X : Type 0} → (ℕ → Result (X × ℕ) PodFault) → ℕ → ℕ → ℕ → Result (List X) PodFault
run step zero p e = Ok []
run step (suc n) p e = cond (nat_lt p e) (after (λ m. run step n m e) (step p)) (Ok [])

abbrev pub list_of : {X : Type 0} → Result (List X) PodFault → List X
list_of (Ok xs) = xs
list_of (Err f) = []

-- a value of a type with a size of its own, whose body begins at b
abbrev pub scalar : List ℕ → ℕ → ℕ → Pod-F Pod Control Prop
scalar bytes t b =
    cond (t == 2) (Pod-F.Bool (not (u32_at bytes b == 0)))
    (cond (t == 3) (Pod-F.Id (u32_at bytes b))
    (cond (t == 4) (Pod-F.Int (cast_signed w32 (u32_at bytes b)))
    (cond (t == 5) (Pod-F.Long (cast_signed w64 (u64_at bytes b)))
    (cond (t == 6) (Pod-F.FloatBits (u32_at bytes b))
    (cond (t == 7) (Pod-F.DoubleBits (u64_at bytes b))
    (cond (t == 10) (Pod-F.Rectangle (u32_at bytes b) (u32_at bytes (b + 4)))
    (cond (t == 11) (Pod-F.Fraction (u32_at bytes b) (u32_at bytes (b + 4))) (Pod-F.Fd (cast_signed w64 (u64_at bytes b))))))))))

-- the child type and the values of an array or choice, whose children's size and type are at c
abbrev pub is_bare : List ℕ → ℕ → Bool
is_bare bytes c = (u32_at bytes c == 0) && nat_le (u32_at bytes (c + 4)) 1

abbrev pub child_of : List ℕ → ℕ → ℕ
child_of bytes c = cond (is_bare bytes c) 1 (u32_at bytes (c + 4))

abbrev pub element_step : List ℕ → ℕ → ℕ → Result (Pod × ℕ) PodFault
element_step bytes child q = Ok (roll-Pod (scalar bytes child q), q + child_size child)

abbrev pub values_of : List ℕ → ℕ → ℕ → List Pod
values_of bytes c e = cond (is_bare bytes c) [] (list_of (run (element_step bytes (u32_at bytes (c + 4))) e (c + 8) e))

abbrev pub kind_of : ℕ → ChoiceKind
kind_of n = cond (n == 0) k.None (cond (n == 1) k.Range (cond (n == 2) k.Step (cond (n == 3) k.Enum k.Flags)))

-- a value that holds no PODs, of type t with its body from b to e
abbrev pub leaf_of : List ℕ → ℕ → ℕ → ℕ → Pod-F Pod Control Prop
leaf_of bytes t b e =
    cond (t == 1) Pod-F.None
    (cond (t == 8) (Pod-F.Text (slice_range bytes b (e - 1)))
    (cond (t == 9) (Pod-F.Bytes (slice_range bytes b e))
    (cond (t == 12) (Pod-F.Bitmap (slice_range bytes b e))
    (cond (t == 13) (cond (e == b) (Pod-F.Array 1 []) (Pod-F.Array (child_of bytes b) (values_of bytes b e)))
    (cond (t == 19) (Pod-F.Choice (kind_of (u32_at bytes b)) (u32_at bytes (b + 4)) (child_of bytes (b + 8)) (values_of bytes (b + 8) e))
    (scalar bytes t b))))))

-- a property at q: its key, its flags and, by the step, its POD
abbrev pub prop_of : List ℕ → ℕ → Pod × ℕ → Prop × ℕ
prop_of bytes q x = (roll-Prop (record { key = u32_at bytes q; flags = u32_at bytes (q + 4); value = x.0 }), x.1)

-- a control at q: its offset, its kind and, by the step, its POD
abbrev pub control_of : List ℕ → ℕ → Pod × ℕ → Control × ℕ
control_of bytes q x = (roll-Control (record { offset = u32_at bytes q; kind = u32_at bytes (q + 4); value = x.0 }), x.1)

-- two numbers and a POD, made into one thing
abbrev pub keyed_step : {X : Type 0} → (ℕ → Pod × ℕ → X × ℕ) → (ℕ → Result (Pod × ℕ) PodFault) → ℕ → ℕ
    → Result (X × ℕ) PodFault
keyed_step made step e q = cond (nat_lt e (q + 8)) (Err (Short q)) (mapped (made q) (step (q + 8)))

-- a body, with the PODs that it holds by the step
abbrev pub body_of : (ℕ → Result (Pod × ℕ) PodFault) → List ℕ → ℕ → ℕ → ℕ → Result (Pod-F Pod Control Prop) PodFault
body_of step bytes t b e =
    cond (t == 14) (mapped Pod-F.Struct (run step e b e))
    (cond (t == 15) (mapped (Pod-F.Object (u32_at bytes b) (u32_at bytes (b + 4))) (run (keyed_step (prop_of bytes) step e) e (b + 8) e))
    (cond (t == 16) (mapped (Pod-F.Sequence (u32_at bytes b)) (run (keyed_step (control_of bytes) step e) e (b + 8) e))
    (Ok (leaf_of bytes t b e))))

-- the POD at p within e, with n levels left, and where it ends; or its first fault
unfoldable pub decoded : ℕ → List ℕ → ℕ → ℕ → Result (Pod × ℕ) PodFault
decoded zero bytes p e = Err (Deep p)
decoded (suc left) bytes p e =
    let size = u32_at bytes p in
    let t = u32_at bytes (p + 4) in
    guarded (first_failed (header_checks bytes p e))
    (guarded (first_failed (body_checks bytes p size t))
    (mapped (λ v. (roll-Pod v, p + 8 + pad8 size)) (body_of (λ a. decoded left bytes a (p + 8 + size)) bytes t (p + 8) (p + 8 + size))))

-- of all bytes
abbrev pub decoded_front : List ℕ → Result (Pod × ℕ) PodFault
decoded_front bytes = guarded (first_failed (outer_checks bytes)) (decoded 16 bytes 0 (length bytes))
