-- What is spelled has sound choices.
use Rattle.std.proofs.Common.{◌≡◌, ℕ, zero, suc, ◌+◌, ◌<◌, inl, inr, List, [], ◌∷◌, length, sym, ap, ◌∙◌, arith}
use Rattle.std.specs.List.{All}
use Rattle.pod_codec.specs.declared.pod.Pod.{Pod}
use Rattle.pod_codec.specs.declared.pod.Prop.{Prop}
use Rattle.pod_codec.specs.declared.pod.Control.{Control}
use Rattle.pod_codec.specs.declared.pod.Pod.TheOpen.{Pod-F}
use Rattle.pod_codec.specs.declared.pod.Pod.TheViews.{out-Pod, out-Prop}
use Rattle.pod_codec.specs.PodType.{child_size}
use Rattle.pod_codec.specs.Framing.{Form}
use Rattle.pod_codec.specs.Places.{u32_at, AreAfter, IsScalarAt, IsElementAt, HasChildren}
use Rattle.pod_codec.specs.Spelling.{IsPropAt, IsBodyAt, SpellsAt, FrontSpells}
use Rattle.pod_codec.proofs.FormLemmas.{form_at, form_out}
use Rattle.pod_codec.specs.SoundChoices.{IsOfType, IsSoundChoice, HoldsSoundChoices, HasSoundChoices}

-- what holds of each of the things one after the other
pub all_after : {X : Type 0} (R : ℕ → X → ℕ → Type 0) (P : X → Type 0) → ((q : ℕ) (x : X) (m : ℕ) → R q x m → P x)
    → (p : ℕ) (xs : List X) (e : ℕ) → AreAfter R p xs e → All P xs
all_after R P each p [] e h zero d l = absurd (omega arith)
all_after R P each p [] e h (suc k) d l = absurd (omega arith)
all_after R P each p (x ∷ xs) e h zero d l = each p x h.0 h.1
all_after R P each p (x ∷ xs) e h (suc k) d l = all_after R P each h.0 xs e h.2 k d (omega arith)

pub scalar_type : (bytes : List ℕ) (t b : ℕ) (v : Pod-F Pod Control Prop) → IsScalarAt bytes t b v → (form_at v).number ≡ t
scalar_type bytes t b (Pod-F.Bool x) h = sym h.0
scalar_type bytes t b (Pod-F.Id n) h = sym h.0
scalar_type bytes t b (Pod-F.Int n) h = sym h.0
scalar_type bytes t b (Pod-F.Long n) h = sym h.0
scalar_type bytes t b (Pod-F.FloatBits n) h = sym h.0
scalar_type bytes t b (Pod-F.DoubleBits n) h = sym h.0
scalar_type bytes t b (Pod-F.Rectangle width height) h = sym h.0
scalar_type bytes t b (Pod-F.Fraction num denom) h = sym h.0
scalar_type bytes t b (Pod-F.Fd n) h = sym h.0
scalar_type bytes t b other h = absurd h

element_type : (bytes : List ℕ) (child q : ℕ) (pod : Pod) (m : ℕ) → IsElementAt bytes child q pod m → IsOfType child pod
element_type bytes child q pod m h = ap (λ (f : Form). f.number) (form_out pod) ∙ scalar_type bytes child q (out-Pod pod) h.1

sound_children : (bytes : List ℕ) (c e child : ℕ) (values : List Pod) → HasChildren bytes c e child values → 0 < length values
    → (0 < child_size child) × All (IsOfType child) values
sound_children bytes c e child values (inl n) some = absurd (omega (arith, ap length n.none))
sound_children bytes c e child values (inr s) some =
    (s.allowed, all_after (IsElementAt bytes child) (IsOfType child) (element_type bytes child) (c + 8) values e s.elements)

sound_body : (Held : ℕ → Pod → ℕ → Type 0) (bytes : List ℕ) (t b e : ℕ) (v : Pod-F Pod Control Prop) → IsBodyAt Held bytes t b e v
    → IsSoundChoice v
sound_body Held bytes t b e (Pod-F.Choice kind flags child values) h = sound_children bytes (b + 8) e child values h.3
sound_body Held bytes t b e other h = tt

sound_pod : (left : ℕ) (bytes : List ℕ) (p e : ℕ) (pod : Pod) (q : ℕ) → SpellsAt left bytes p e pod q → IsSoundChoice (out-Pod pod)
unfolding SpellsAt
sound_pod zero bytes p e pod q h = absurd h
sound_pod (suc left) bytes p e pod q h =
    let size = u32_at bytes p in
    sound_body (λ a x m. SpellsAt left bytes a (p + 8 + size) x m) bytes (u32_at bytes (p + 4)) (p + 8) (p + 8 + size) (out-Pod pod) h.2

sound_held : (left : ℕ) (bytes : List ℕ) (t b e : ℕ) (v : Pod-F Pod Control Prop)
    → IsBodyAt (λ a x m. SpellsAt left bytes a e x m) bytes t b e v → HoldsSoundChoices v
sound_held left bytes t b e (Pod-F.Object object id props) h =
    all_after (IsPropAt (λ a x m. SpellsAt left bytes a e x m) bytes) (λ prop. IsSoundChoice (out-Pod (out-Prop prop).value))
    (λ q prop m s. sound_pod left bytes (q + 8) e (out-Prop prop).value m s.2) (b + 8) props e h.3
sound_held left bytes t b e other h = tt

pub sound_front : (bytes : List ℕ) (pod : Pod) (size : ℕ) → FrontSpells bytes pod size → HasSoundChoices pod
unfolding SpellsAt
sound_front bytes pod size h = sound_held 15 bytes (u32_at bytes 4) 8 (8 + u32_at bytes 0) (out-Pod pod) h.front.2
