-- Lists with one thing changed, and what a write through a slice leaves of them.
use Rattle.std.proofs.Common.{◌≡◌, ◌≢◌, ◌⊎◌, inl, inr, ℕ, zero, suc, ◌<◌, List, [], ◌∷◌, length, get_or, drop, Some, refl, sym}
use Rattle.std.proofs.Common.{ap, ◌∙◌, subst, arith}
use Rattle.std.specs.List.{All}
use Rattle.std.specs.Prelude.{slice_get}
use Rattle.std.proofs.Math.ListN.{set, length-set}
use Rattle.std.proofs.lemmas.List.{take-append-le}
use Rattle.std.proofs.Math.Seq.{take-length}
use Rattle.std.proofs.lemmas.List.Elements.{All-cons, All-head, All-tail}
use Rattle.std.proofs.lemmas.Option.{same_Some, none-some}
use Rattle.pw_lists.specs.Refilled.{refilled}
use Rattle.port_model.specs.PortState.{changed}

pub length-changed : {X : Type 0} (xs : List X) (i : ℕ) (f : X → X) → length (changed xs i f) ≡ length xs
length-changed [] i f = refl
length-changed (x ∷ xs) zero f = refl
length-changed (x ∷ xs) (suc i) f = ap suc (length-changed xs i f)

set-changed : {X : Type 0} (xs : List X) (i : ℕ) (d : X) (f : X → X) → i < length xs → set xs i (f (get_or xs i d)) ≡ changed xs i f
set-changed [] i d f l = refl
set-changed (x ∷ xs) zero d f l = refl
set-changed (x ∷ xs) (suc i) d f l = ap (λ ys. x ∷ ys) (set-changed xs i d f (omega arith))

pub refilled_whole : {X : Type 0} (xs ys : List X) → length ys ≡ length xs → refilled xs ys ≡ ys
refilled_whole xs ys e = rw (sym e) (take-append-le (length ys) ys (drop (length ys) xs) (omega arith) ∙ take-length ys)

-- a write through a slice, which has what was there, changed
pub written : {X : Type 0} (xs seen : List X) (i : ℕ) (d v : X) (f : X → X) → seen ≡ xs → i < length xs → v ≡ f (get_or seen i d)
    → refilled xs (set seen i v) ≡ changed xs i f
written xs seen i d v f same l e =
    let at : i < length seen = subst (λ (ys : List _). i < length ys) (sym same) l in
    refilled_whole xs (set seen i v) (length-set seen i v ∙ ap length same) ∙ ap (set seen i) e ∙ set-changed seen i d f at
    ∙ ap (λ (ys : List _). changed ys i f) same

-- what is in a changed list: what was changed, or what was there before
pub changed_here : {X : Type 0} (xs : List X) (i : ℕ) (f : X → X) (x : X) → slice_get xs i ≡ Some x
    → slice_get (changed xs i f) i ≡ Some (f x)
changed_here [] i f x e = elim (none-some x e) [ ]
changed_here (y ∷ xs) zero f x e = ap (λ (z : _). Some (f z)) (same_Some y x e)
changed_here (y ∷ xs) (suc i) f x e = changed_here xs i f x e

pub changed_elsewhere : {X : Type 0} (xs : List X) (i j : ℕ) (f : X → X) → j ≢ i → slice_get (changed xs i f) j ≡ slice_get xs j
changed_elsewhere [] i j f n = refl
changed_elsewhere (x ∷ xs) zero zero f n = absurd (n refl)
changed_elsewhere (x ∷ xs) zero (suc j) f n = refl
changed_elsewhere (x ∷ xs) (suc i) zero f n = refl
changed_elsewhere (x ∷ xs) (suc i) (suc j) f n = changed_elsewhere xs i j f (λ e. n (ap suc e))

pub changed_origin : {X : Type 0} (xs : List X) (i j : ℕ) (f : X → X) (y : X) → slice_get (changed xs i f) j ≡ Some y
    → ((j ≡ i) × ((x : X) × (slice_get xs i ≡ Some x) × (y ≡ f x))) ⊎ ((j ≢ i) × (slice_get xs j ≡ Some y))
changed_origin [] i j f y e = absurd (none-some y e)
changed_origin (x ∷ xs) zero zero f y e = inl (refl, (x, refl, sym (same_Some (f x) y e)))
changed_origin (x ∷ xs) zero (suc j) f y e = inr ((λ z. absurd (omega arith)), e)
changed_origin (x ∷ xs) (suc i) zero f y e = inr ((λ z. absurd (omega arith)), e)
changed_origin (x ∷ xs) (suc i) (suc j) f y e =
    elim (changed_origin xs i j f y e) [
      | inl w ↦ inl (ap suc w.0, w.1)
      | inr w ↦ inr ((λ z. w.0 (omega arith)), w.1)
    ]

pub All-changed : {X : Type 0} (P : X → Type 0) (xs : List X) (i : ℕ) (f : X → X) → All P xs
    → ((x : X) → slice_get xs i ≡ Some x → P x → P (f x)) → All P (changed xs i f)
All-changed P [] i f h g = h
All-changed P (x ∷ xs) zero f h g = All-cons P (f x) xs (g x refl (All-head P x xs h)) (All-tail P x xs h)
All-changed P (x ∷ xs) (suc i) f h g = All-cons P x (changed xs i f) (All-head P x xs h) (All-changed P xs i f (All-tail P x xs h) g)

-- a change that changes nothing
pub changed_same : {X : Type 0} (xs : List X) (i : ℕ) (f : X → X) → ((x : X) → slice_get xs i ≡ Some x → f x ≡ x) → changed xs i f ≡ xs
changed_same [] i f h = refl
changed_same (x ∷ xs) zero f h = ap (λ y. y ∷ xs) (h x refl)
changed_same (x ∷ xs) (suc i) f h = ap (λ ys. x ∷ ys) (changed_same xs i f h)

-- two changes in one place
pub changed_twice : {X : Type 0} (xs : List X) (i : ℕ) (f g : X → X) → changed (changed xs i f) i g ≡ changed xs i (λ x. g (f x))
changed_twice [] i f g = refl
changed_twice (x ∷ xs) zero f g = refl
changed_twice (x ∷ xs) (suc i) f g = ap (λ ys. x ∷ ys) (changed_twice xs i f g)
