-- Fields by their keys, and their order.
use Rattle.std.proofs.Common.{◌≡◌, ◌≢◌, ℕ, zero, suc, ◌+◌, ◌-◌, ◌<◌, ◌≤◌, inl, inr, List, [], ◌∷◌, ◌++◌, length}
use Rattle.std.proofs.Common.{get_or, take, drop, Option, Some, None, refl, ap, ◌∙◌, ◌==◌, arith}
use Rattle.std.specs.List.{All}
use Rattle.std.specs.Option.{option_or}
use Rattle.std.specs.Prelude.{slice_get, slice_range}
use Rattle.std.proofs.lemmas.Bool.Decides.{eqb_tells}
use Rattle.std.proofs.lemmas.List.{get_or-drop, get_or_default, get_or-take, length-take, length-drop}
use Rattle.std.proofs.lemmas.List.Elements.{All-head, All-tail}
use Rattle.std.proofs.lemmas.List.Folds.{find-append}
use Rattle.pod_codec.specs.declared.pod.Pod.TheVariants as pod
use Rattle.format_filter.specs.declared.choice.Choice.TheVariants.{Only}
use Rattle.format_filter.specs.declared.format.Field.{Field}
use Rattle.format_filter.specs.CommonFormat.{AreSoundFields, field_of}
use Rattle.format_filter.specs.working.Merging.{IsKeyAt, IsBehind}

-- some field
pub any_field : Field
any_field = record { key = 0; flags = 0; choice = Only pod.None }

pub field_none : (key : ℕ) (xs : List Field) → All (λ f. f.key ≢ key) xs → field_of xs key ≡ None
field_none key [] h = refl
field_none key (f ∷ fs) h =
    elim (eqb_tells f.key key) [
      | inl w ↦ absurd (All-head (λ f. f.key ≢ key) f fs h w.1)
      | inr w ↦ rw w.0 (field_none key fs (All-tail (λ f. f.key ≢ key) f fs h))
    ]

pub field_first : (key : ℕ) (xs : List Field) → All (λ f. f.key ≡ key) xs → field_of xs key ≡ slice_get xs 0
field_first key [] h = refl
field_first key (f ∷ fs) h =
    elim (eqb_tells f.key key) [
      | inl w ↦ rw w.0
      | inr w ↦ absurd (w.1 (All-head (λ f. f.key ≡ key) f fs h))
    ]

or_none : (o : Option Field) → option_or o None ≡ o
or_none None = refl
or_none (Some f) = refl

-- fields of other keys change nothing
pub field_off : (ls zs : List Field) (key : ℕ) → All (λ f. f.key ≢ key) zs → field_of (ls ++ zs) key ≡ field_of ls key
field_off ls zs key h = find-append (λ f. f.key == key) ls zs ∙ ap (option_or (field_of ls key)) (field_none key zs h)
    ∙ or_none (field_of ls key)

-- a key that is not yet there is that of the next fields
pub field_next : (ls xs : List Field) (key : ℕ) → All (λ f. f.key ≢ key) ls → field_of (ls ++ xs) key ≡ field_of xs key
field_next ls xs key h = find-append (λ f. f.key == key) ls xs
    ∙ ap (λ (o : Option Field). option_or o (field_of xs key)) (field_none key ls h)

pub key_least : (xs : List Field) (at key m : ℕ) → IsKeyAt xs at key → All (λ f. m ≤ f.key) (drop at xs) → m ≤ key
key_least xs at key m h low =
    let inside : 0 < length (drop at xs) = omega (arith, length-drop at xs, h.0) in
    let least = low 0 any_field inside in
    let same : (get_or (drop at xs) 0 any_field).key ≡ key = ap (λ (f : Field). f.key) (get_or-drop at xs 0 any_field)
    ∙ ap (λ (n : ℕ). (get_or xs n any_field).key) (omega arith) ∙ h.1 any_field in
    omega arith

-- the key at a place
pub key_at : (xs : List Field) (at key : ℕ) (e : Field) → at < length xs → (get_or xs at e).key ≡ key → IsKeyAt xs at key
key_at xs at key e l h = (l, λ d. ap (λ (f : Field). f.key) (get_or_default xs at d e l) ∙ h)

-- after a place the keys are greater
pub later : (xs : List Field) (at key : ℕ) → AreSoundFields xs → IsKeyAt xs at key → All (λ f. key < f.key) (drop (at + 1) xs)
later xs at key sound h k d l =
    let place : (at + 1) + k < length xs = omega (arith, length-drop (at + 1) xs, l) in
    let order = sound.ascending at (at + 1 + k) d (omega arith) place in
    let read : (get_or (drop (at + 1) xs) k d).key ≡ (get_or xs (at + 1 + k) d).key =
    ap (λ (f : Field). f.key) (get_or-drop (at + 1) xs k d) in
    let own : (get_or xs at d).key ≡ key = h.1 d in
    omega arith

-- from a place on no key is less than its own
pub from_here : (xs : List Field) (at key : ℕ) → AreSoundFields xs → IsKeyAt xs at key → All (λ f. key ≤ f.key) (drop at xs)
from_here xs at key sound h zero d l =
    let read : (get_or (drop at xs) 0 d).key ≡ (get_or xs at d).key = ap (λ (f : Field). f.key) (get_or-drop at xs 0 d)
    ∙ ap (λ (n : ℕ). (get_or xs n d).key) (omega arith) in
    let own : (get_or xs at d).key ≡ key = h.1 d in
    omega arith
from_here xs at key sound h (suc k) d l =
    let place : at + suc k < length xs = omega (arith, length-drop at xs, l) in
    let order = sound.ascending at (at + suc k) d (omega arith) place in
    let read : (get_or (drop at xs) (suc k) d).key ≡ (get_or xs (at + suc k) d).key =
    ap (λ (f : Field). f.key) (get_or-drop at xs (suc k) d) in
    let own : (get_or xs at d).key ≡ key = h.1 d in
    omega arith

pub none_left : (xs : List Field) (at key : ℕ) → length xs ≤ at → All (λ f. key ≤ f.key) (drop at xs)
none_left xs at key h k d l = absurd (omega (arith, length-drop at xs, l))

pub none_after : (xs : List Field) (at key : ℕ) → length xs ≤ at → All (λ f. key < f.key) (drop at xs)
none_after xs at key h k d l = absurd (omega (arith, length-drop at xs, l))

-- a field of the key is there
pub behind_one : (xs : List Field) (at key : ℕ) → AreSoundFields xs → IsKeyAt xs at key → IsBehind xs at key (at + 1)
behind_one xs at key sound h = record {
  within = omega (arith, h.0);
  near = inr refl;
  passed = λ k d l. one k d l;
  left = later xs at key sound h;
} where
  one : (k : ℕ) (d : Field) → k < length (slice_range xs at (at + 1)) → (get_or (slice_range xs at (at + 1)) k d).key ≡ key
  one k d l =
      let n = (at + 1) - at in
      let single : k < n = omega (arith, length-take n (drop at xs), l) in
      let first : k ≡ 0 = omega arith in
      ap (λ (f : Field). f.key) (get_or-take n (drop at xs) k d single ∙ get_or-drop at xs k d)
      ∙ ap (λ (i : ℕ). (get_or xs (at + i) d).key) first ∙ ap (λ (i : ℕ). (get_or xs i d).key) (omega arith) ∙ h.1 d

-- no field of the key is there
pub behind_none : (xs : List Field) (at key : ℕ) → at ≤ length xs → All (λ f. key < f.key) (drop at xs) → IsBehind xs at key at
behind_none xs at key l above = record {
  within = l;
  near = inl refl;
  passed = λ k d m. absurd (omega (arith, m, ap length (nothing xs at)));
  left = above;
} where
  nothing : (xs : List Field) (at : ℕ) → slice_range xs at at ≡ []
  nothing xs at = let none : at - at ≡ 0 = omega arith in ap (λ n. take n (drop at xs)) none

-- a key that is less than what is at a place is less than all after it
pub under : (xs : List Field) (at key first : ℕ) → AreSoundFields xs → IsKeyAt xs at first → All (λ f. key ≤ f.key) (drop at xs)
    → (first ≡ key → ⊥) → All (λ f. key < f.key) (drop at xs)
under xs at key first sound h low different k d l =
    let least = key_least xs at first key h low in
    let more = from_here xs at first sound h k d l in
    omega arith
