-- What fits inside a value, and what the whole then is.
use Rattle.std.proofs.Common.{◌≡◌, ℕ, zero, suc, subst, ◌+◌, ◌-◌, ◌<◌, ◌≤◌, Bool, true, false, ◌&&◌, List, [], ◌∷◌}
use Rattle.std.proofs.Common.{◌++◌, length, take, drop, replicate, IsTrue, refl, sym, ap, ◌∙◌, append_assoc, length-append, arith, rules}
use Rattle.std.proofs.Common.{Result, Ok, Err}
use Rattle.std.specs.Prelude.{OnOk}
use Rattle.std.specs.List.{flat_map, list_all, AllByRecursion}
use Rattle.std.proofs.lemmas.List.Concat.{flat_map-cons}
use Rattle.std.proofs.lemmas.List.{take_at, drop_at}
use Rattle.pod_codec.specs.declared.pod.Pod.{Pod}
use Rattle.pod_codec.specs.declared.pod.Pod.TheViews.{out-Pod}
use Rattle.pod_codec.specs.Numbers.{ValueFits, NumbersFit}
use Rattle.pod_codec.specs.Framing.{Form, Keyed, framed, keyed_bytes, deepest, deepest_keyed, u32_bytes, pad8}
use Rattle.pod_codec.specs.PodValue.{struct_form, object_form, sequence_form}
use Rattle.pod_codec.specs.Writable.{Fits, FitsBody, Tells, IsOpen}
use Rattle.pod_codec.specs.declared.fault.WriteFault.{WriteFault}
use Rattle.pod_codec.specs.declared.fault.WriteFault.TheVariants.{Unwritable, Memory}

pub u32_length : (n : ℕ) → length (u32_bytes n) ≡ 4
unfolding u32_bytes
u32_length n = refl

framed_long : (f : Form) → length f.body ≤ length (framed f)
framed_long f = simp length-append (omega arith)

keyed_long : (k : Keyed) → length k.value.body ≤ length (keyed_bytes k)
keyed_long k = simp length-append (omega arith)

both : (x y : Bool) → IsTrue x → IsTrue y → IsTrue (x && y)
both true true h k = h
both true false h k = k
both false y h k = h

-- all fit: all is allowed, and no deeper than what is left
pub fit_is_sound : (left : ℕ) (fs : List Form) → AllByRecursion (Fits left) fs → IsTrue (list_all (λ f. f.sound) fs) × (deepest fs ≤ left)
fit_is_sound left [] h = (search rules, omega arith)
fit_is_sound left (f ∷ fs) h =
    let r = fit_is_sound left fs h.1 in
    (both f.sound (list_all (λ x. x.sound) fs) h.0.sound r.0, omega (arith, h.0.depth, r.1))

pub fit_is_sound_keyed : (left : ℕ) (ks : List Keyed) → AllByRecursion (λ k. Fits left k.value) ks
    → IsTrue (list_all (λ k. k.value.sound) ks) × (deepest_keyed ks ≤ left)
fit_is_sound_keyed left [] h = (search rules, omega arith)
fit_is_sound_keyed left (k ∷ ks) h =
    let r = fit_is_sound_keyed left ks h.1 in
    (both k.value.sound (list_all (λ x. x.value.sound) ks) h.0.sound r.0, omega (arith, h.0.depth, r.1))

left_of : (x y : Bool) → IsTrue (x && y) → IsTrue x × IsTrue y
left_of true true h = (h, h)
left_of true false h = absurd cc
left_of false y h = absurd cc

-- what is allowed, not too deep and not too long together fits, each
pub parts_fit : (left : ℕ) (fs : List Form) → IsTrue (list_all (λ f. f.sound) fs) → deepest fs ≤ left
    → length (flat_map framed fs) ≤ 1048576 → AllByRecursion (Fits left) fs
parts_fit left [] s d z = tt
parts_fit left (f ∷ fs) s d z =
    let p = left_of f.sound (list_all (λ x. x.sound) fs) s in
    let z' : length (framed f) + length (flat_map framed fs) ≤ 1048576 =
    omega (arith, ap length (flat_map-cons framed f fs), length-append (framed f) (flat_map framed fs)) in
    (record { sound = p.0; depth = omega arith; size = omega (arith, framed_long f) }, parts_fit left fs p.1 (omega arith) (omega arith))

pub parts_fit_keyed : (left : ℕ) (ks : List Keyed) → IsTrue (list_all (λ k. k.value.sound) ks) → deepest_keyed ks ≤ left
    → length (flat_map keyed_bytes ks) ≤ 1048576 → AllByRecursion (λ k. Fits left k.value) ks
parts_fit_keyed left [] s d z = tt
parts_fit_keyed left (k ∷ ks) s d z =
    let p = left_of k.value.sound (list_all (λ x. x.value.sound) ks) s in
    let z' : length (keyed_bytes k) + length (flat_map keyed_bytes ks) ≤ 1048576 =
    omega (arith, ap length (flat_map-cons keyed_bytes k ks), length-append (keyed_bytes k) (flat_map keyed_bytes ks)) in (
      record { sound = p.0; depth = omega arith; size = omega (arith, keyed_long k) },
      parts_fit_keyed left ks p.1 (omega arith) (omega arith),
    )

pub struct_told : (r : Result (Unit {0}) WriteFault) (left : ℕ) (fs : List Form) → Tells r (AllByRecursion (Fits left) fs)
    → FitsBody r left (struct_form fs)
struct_told (Ok done) left fs h = let k = fit_is_sound left fs h in (k.0, omega (arith, k.1))
struct_told (Err Unwritable) left fs h = λ w. h (parts_fit left fs w.sound (omega (arith, w.depth)) w.size)
struct_told (Err Memory) left fs h = tt

-- a form whose body is two numbers and things that hold a value each
keyed_told : (r : Result (Unit {0}) WriteFault) (left a b : ℕ) (f : Form) (ks : List Keyed)
    → f.sound ≡ list_all (λ k. k.value.sound) ks → f.depth ≡ suc (deepest_keyed ks)
    → f.body ≡ (u32_bytes a ++ u32_bytes b) ++ flat_map keyed_bytes ks
    → Tells r (AllByRecursion (λ k. Fits left k.value) ks) → FitsBody r left f
keyed_told (Ok done) left a b f ks sound depth body h =
    let k = fit_is_sound_keyed left ks h in (subst IsTrue (sym sound) k.0, omega (arith, depth, k.1))
keyed_told (Err Unwritable) left a b f ks sound depth body h =
    λ w. h (parts_fit_keyed left ks (subst IsTrue sound w.sound) (omega (arith, depth, w.depth))
    (omega (arith, w.size, ap length body, length-append (u32_bytes a ++ u32_bytes b) (flat_map keyed_bytes ks))))
keyed_told (Err Memory) left a b f ks sound depth body h = tt

pub object_told : (r : Result (Unit {0}) WriteFault) (left object id : ℕ) (ks : List Keyed)
    → Tells r (AllByRecursion (λ k. Fits left k.value) ks) → FitsBody r left (object_form object id ks)
object_told r left object id ks h = keyed_told r left object id (object_form object id ks) ks refl refl refl h

pub sequence_told : (r : Result (Unit {0}) WriteFault) (left unit : ℕ) (ks : List Keyed)
    → Tells r (AllByRecursion (λ k. Fits left k.value) ks) → FitsBody r left (sequence_form unit ks)
sequence_told r left unit ks h = keyed_told r left unit 0 (sequence_form unit ks) ks refl refl refl h

pub whole_told : (r : Result (Unit {0}) WriteFault) (left n : ℕ) (f : Form) → n ≡ length f.body → IsTrue f.sound → f.depth ≤ left
    → Tells r (n ≤ 1048576) → Tells r (Fits left f)
whole_told (Ok done) left n f e s d h = record { sound = s; depth = d; size = omega arith }
whole_told (Err Unwritable) left n f e s d h = λ w. h (omega (arith, w.size))
whole_told (Err Memory) left n f e s d h = tt

regrouped : (a b c d : List ℕ) → (a ++ (b ++ c)) ++ d ≡ (a ++ b) ++ (c ++ d)
regrouped a b c d = simp append_assoc

gathered : (a b c d e : List ℕ) → ((a ++ b) ++ (c ++ d)) ++ e ≡ a ++ (((b ++ c) ++ d) ++ e)
gathered a b c d e = simp append_assoc

pub open_size : (front : List ℕ) (f : Form) (at : ℕ) (bytes : List ℕ) → IsOpen front f at bytes → length bytes ≡ at + 8 + length f.body
open_size front f at bytes op = omega (
  arith,
  op.place,
  ap length op.parts,
  length-append (front ++ (u32_bytes 0 ++ u32_bytes f.number)) f.body,
  length-append front (u32_bytes 0 ++ u32_bytes f.number),
  length-append (u32_bytes 0) (u32_bytes f.number),
  u32_length 0,
  u32_length f.number,
)

-- the frame of an open form, closed
pub closed : (front : List ℕ) (f : Form) (at : ℕ) (bytes : List ℕ) (size : ℕ) → IsOpen front f at bytes → size ≡ length bytes - (at + 8)
    → ((take at bytes ++ u32_bytes size) ++ drop (at + 4) bytes) ++ replicate (pad8 size - size) 0 ≡ front ++ framed f
closed front f at bytes size op e =
    let un = u32_bytes f.number in
    let t : take at bytes ≡ front = ap (take at) (op.parts ∙ append_assoc front (u32_bytes 0 ++ un) f.body)
    ∙ take_at front ((u32_bytes 0 ++ un) ++ f.body) at (sym op.place) in
    let d : drop (at + 4) bytes ≡ un ++ f.body = ap (drop (at + 4)) (op.parts ∙ regrouped front (u32_bytes 0) un f.body)
    ∙ drop_at (front ++ u32_bytes 0) (un ++ f.body) (at + 4)
    (omega (arith, length-append front (u32_bytes 0), u32_length 0, op.place)) in
    let n : size ≡ length f.body = omega (arith, e, open_size front f at bytes op) in
    ap (λ (x : List ℕ). ((x ++ u32_bytes size) ++ drop (at + 4) bytes) ++ replicate (pad8 size - size) 0) t
    ∙ ap (λ (x : List ℕ). ((front ++ u32_bytes size) ++ x) ++ replicate (pad8 size - size) 0) d
    ∙ ap (λ (k : ℕ). ((front ++ u32_bytes k) ++ (un ++ f.body)) ++ replicate (pad8 k - k) 0) n
    ∙ gathered front (u32_bytes (length f.body)) un f.body (replicate (pad8 (length f.body) - length f.body) 0)

-- a value whose own numbers fit, with those of what it holds
numbers_fit : (left : ℕ) (pod : Pod) → 0 < left → ValueFits (NumbersFit (left - 1)) (out-Pod pod) → NumbersFit left pod
unfolding NumbersFit
numbers_fit zero pod h v = tt
numbers_fit (suc below) pod h v = subst (λ (n : ℕ). ValueFits (NumbersFit n) (out-Pod pod)) (omega arith) v

pub numbers_told : (r : Result (Unit {0}) WriteFault) (left : ℕ) (pod : Pod) → 0 < left → ValueFits (NumbersFit (left - 1)) (out-Pod pod)
    → OnOk r (NumbersFit left pod)
numbers_told (Ok done) left pod h v = numbers_fit left pod h v
numbers_told (Err fault) left pod h v = tt
