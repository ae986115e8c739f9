-- What is written of fields, properties and controls spells them.
use Rattle.std.proofs.Common.{◌≡◌, ℕ, ◌+◌, ◌≤◌, ◌<◌, ◌^◌, List, [], ◌∷◌, ◌++◌, length, map, refl, sym, ap, subst, ◌∙◌, arith}
use Rattle.std.proofs.Common.{length-append}
use Rattle.std.specs.List.{flat_map, AllByRecursion}
use Rattle.std.proofs.lemmas.List.Concat.{flat_map-cons}
use Rattle.pod_codec.specs.declared.pod.Pod.{Pod}
use Rattle.pod_codec.specs.declared.pod.Prop.{Prop}
use Rattle.pod_codec.specs.declared.pod.Control.{Control}
use Rattle.pod_codec.specs.declared.pod.Pod.TheViews.{out-Prop, out-Control}
use Rattle.pod_codec.specs.Framing.{Form, Keyed, framed, keyed_bytes, u32_bytes}
use Rattle.pod_codec.specs.PodValue.{form_of, keyed_of, control_keyed}
use Rattle.pod_codec.specs.Writable.{Fits}
use Rattle.pod_codec.specs.Numbers.{PropFits, ControlFits, NumbersFit}
use Rattle.pod_codec.specs.Places.{u32_at, AreAfter}
use Rattle.pod_codec.specs.Spelling.{IsPropAt, IsControlAt, SpellsAt}
use Rattle.pod_codec.proofs.FormLemmas.{keyed_out, control_out}
use Rattle.pod_codec.proofs.PlaceLemmas.{StandsAt, stands_left, stands_right}
use Rattle.pod_codec.proofs.ScalarSpelledLemmas.{pair_stands, pair_length}

-- what is held, with n levels left, is spelled where it is, before e
abbrev pub IsSpelled : ℕ → List ℕ → ℕ → Type 0
IsSpelled left bytes e = (pod : Pod) (a : ℕ) → Fits left (form_of pod) → NumbersFit left pod → StandsAt bytes a (framed (form_of pod))
    → a + length (framed (form_of pod)) ≤ e → SpellsAt left bytes a e pod (a + length (framed (form_of pod)))

pub fields_spell : (left : ℕ) (bytes : List ℕ) (e : ℕ) → IsSpelled left bytes e → (b : ℕ) (fields : List Pod)
    → AllByRecursion (Fits left) (map form_of fields) → AllByRecursion (NumbersFit left) fields
    → StandsAt bytes b (flat_map framed (map form_of fields)) → e ≡ b + length (flat_map framed (map form_of fields))
    → AreAfter (λ a x m. SpellsAt left bytes a e x m) b fields e
fields_spell left bytes e held b [] fits numbers s end = omega (arith, end)
fields_spell left bytes e held b (x ∷ xs) fits numbers s end =
    let f = form_of x in
    let rest = flat_map framed (map form_of xs) in
    let split : StandsAt bytes b (framed f ++ rest) = subst (StandsAt bytes b) (flat_map-cons framed f (map form_of xs)) s in
    let long : e ≡ b + (length (framed f) + length rest) =
    omega (arith, end, ap length (flat_map-cons framed f (map form_of xs)), length-append (framed f) rest) in
    let next = b + length (framed f) in (
      next,
      held x b fits.0 numbers.0 (stands_left bytes b (framed f) rest split) (omega arith),
      fields_spell left bytes e held next xs fits.1 numbers.1 (stands_right bytes b next (framed f) rest refl split) (omega arith),
    )

keyed_length : (k : Keyed) → length (keyed_bytes k) ≡ 8 + length (framed k.value)
keyed_length k = omega (arith, length-append (u32_bytes k.first ++ u32_bytes k.second) (framed k.value), pair_length k.first k.second)

-- two numbers and a POD are where they are written
keyed_spells : (left : ℕ) (bytes : List ℕ) (e : ℕ) → IsSpelled left bytes e → (q a b : ℕ) (pod : Pod) (k : Keyed)
    → k ≡ record { first = a; second = b; value = form_of pod }
    → Fits left k.value → (a < 2 ^ 32) × (b < 2 ^ 32) × NumbersFit left pod → StandsAt bytes q (keyed_bytes k)
    → q + length (keyed_bytes k) ≤ e
    → (a ≡ u32_at bytes q) × (b ≡ u32_at bytes (q + 4)) × SpellsAt left bytes (q + 8) e pod (q + length (keyed_bytes k))
keyed_spells left bytes e held q a b pod k is fits numbers s within =
    let head = u32_bytes k.first ++ u32_bytes k.second in
    let first : k.first ≡ a = ap (λ (x : Keyed). x.first) is in
    let second : k.second ≡ b = ap (λ (x : Keyed). x.second) is in
    let value : k.value ≡ form_of pod = ap (λ (x : Keyed). x.value) is in
    let pair = pair_stands bytes q k.first k.second (omega (arith, first, numbers.0)) (omega (arith, second, numbers.1))
    (stands_left bytes q head (framed k.value) s) in
    let behind = stands_right bytes q (q + 8) head (framed k.value) (omega (arith, pair_length k.first k.second)) s in
    let same : q + 8 + length (framed (form_of pod)) ≡ q + length (keyed_bytes k) =
    omega (arith, keyed_length k, ap (λ (f : Form). length (framed f)) value) in (
      sym first ∙ pair.0,
      sym second ∙ pair.1,
      subst (λ (m : ℕ). SpellsAt left bytes (q + 8) e pod m) same
          (held pod (q + 8) (subst (Fits left) value fits) numbers.2
          (subst (λ (f : Form). StandsAt bytes (q + 8) (framed f)) value behind) (omega (arith, same, within))),
    )

-- such things one after the other
module _ {X : Type 0} (keyed : X → Keyed) (Good : X → Type 0) (At : ℕ → X → ℕ → Type 0) (left : ℕ) (bytes : List ℕ) (e : ℕ)
    (each : (q : ℕ) (x : X) → Fits left (keyed x).value → Good x → StandsAt bytes q (keyed_bytes (keyed x))
    → q + length (keyed_bytes (keyed x)) ≤ e → At q x (q + length (keyed_bytes (keyed x)))) where
  all_spell : (b : ℕ) (xs : List X) → AllByRecursion (λ k. Fits left k.value) (map keyed xs) → AllByRecursion Good xs
      → StandsAt bytes b (flat_map keyed_bytes (map keyed xs)) → e ≡ b + length (flat_map keyed_bytes (map keyed xs))
      → AreAfter At b xs e
  all_spell b [] fits numbers s end = omega (arith, end)
  all_spell b (x ∷ xs) fits numbers s end =
      let k = keyed x in
      let rest = flat_map keyed_bytes (map keyed xs) in
      let split : StandsAt bytes b (keyed_bytes k ++ rest) = subst (StandsAt bytes b) (flat_map-cons keyed_bytes k (map keyed xs)) s in
      let long : e ≡ b + (length (keyed_bytes k) + length rest) =
      omega (arith, end, ap length (flat_map-cons keyed_bytes k (map keyed xs)), length-append (keyed_bytes k) rest) in
      let next = b + length (keyed_bytes k) in (
        next,
        each b x fits.0 numbers.0 (stands_left bytes b (keyed_bytes k) rest split) (omega arith),
        all_spell next xs fits.1 numbers.1 (stands_right bytes b next (keyed_bytes k) rest refl split) (omega arith),
      )

pub props_spell : (left : ℕ) (bytes : List ℕ) (e : ℕ) → IsSpelled left bytes e → (b : ℕ) (props : List Prop)
    → AllByRecursion (λ k. Fits left k.value) (map keyed_of props) → AllByRecursion (PropFits (NumbersFit left)) props
    → StandsAt bytes b (flat_map keyed_bytes (map keyed_of props)) → e ≡ b + length (flat_map keyed_bytes (map keyed_of props))
    → AreAfter (IsPropAt (λ a x m. SpellsAt left bytes a e x m) bytes) b props e
props_spell left bytes e held = all_spell keyed_of (PropFits (NumbersFit left)) (IsPropAt (λ a x m. SpellsAt left bytes a e x m) bytes)
    left bytes e (λ q x fits good s within. keyed_spells left bytes e held q (out-Prop x).key (out-Prop x).flags (out-Prop x).value
    (keyed_of x) (keyed_out x) fits good s within)

pub controls_spell : (left : ℕ) (bytes : List ℕ) (e : ℕ) → IsSpelled left bytes e → (b : ℕ) (controls : List Control)
    → AllByRecursion (λ k. Fits left k.value) (map control_keyed controls) → AllByRecursion (ControlFits (NumbersFit left)) controls
    → StandsAt bytes b (flat_map keyed_bytes (map control_keyed controls))
    → e ≡ b + length (flat_map keyed_bytes (map control_keyed controls))
    → AreAfter (IsControlAt (λ a x m. SpellsAt left bytes a e x m) bytes) b controls e
controls_spell left bytes e held = all_spell control_keyed (ControlFits (NumbersFit left))
    (IsControlAt (λ a x m. SpellsAt left bytes a e x m) bytes) left bytes e
    (λ q x fits good s within. keyed_spells left bytes e held q (out-Control x).offset (out-Control x).kind (out-Control x).value
    (control_keyed x) (control_out x) fits good s within)
