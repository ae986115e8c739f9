-- Two lists in one strict order that have the same things are the same.
use Rattle.std.proofs.Common.{◌≡◌, ◌⊎◌, inl, inr, ℕ, zero, suc, ◌+◌, ◌<◌, List, [], ◌∷◌, length, get_or, map, refl, sym, ap₂, ◌∙◌, subst, arith}
use Rattle.std.specs.Prelude.{slice_get, Some}
use Rattle.std.specs.List.{All, AllPairs, AllZip, Contains}
use Rattle.std.proofs.lemmas.List.Elements.{All-head, All-tail}
use Rattle.graph_plan.proofs.lists.ElementLemmas.{behind}

-- what a list with a first thing has
first_cases : {X : Type 0} (x : X) (xs : List X) (y : X) → Contains (x ∷ xs) y → (x ≡ y) ⊎ Contains xs y
first_cases x xs y w = go w.0 w.1 w.2 where
  go : (k : ℕ) → k < length (x ∷ xs) → get_or (x ∷ xs) k y ≡ y → (x ≡ y) ⊎ Contains xs y
  go zero l e = inl e
  go (suc k) l e = inr (k, omega arith, e)

module _ {X : Type 0} (R : X → X → Type 0) (apart : (x y : X) → R x y → R y x → ⊥) where
  -- the first thing is before all others
  before : (x : X) (xs : List X) → AllPairs R (x ∷ xs) → (y : X) → Contains xs y → R x y
  before x xs h y w = subst (R x) w.2 (h 0 (suc w.0) y (omega arith) (let l = w.1 in omega arith))

  rest_pairs : (x : X) (xs : List X) → AllPairs R (x ∷ xs) → AllPairs R xs
  rest_pairs x xs h i j d a b = h (suc i) (suc j) d (omega (arith, a)) (omega (arith, b))

  -- without the first thing
  rest_has : (x y : X) (xs ys : List X) → AllPairs R (x ∷ xs) → x ≡ y → ((z : X) → Contains (x ∷ xs) z → Contains (y ∷ ys) z) → (z : X)
      → Contains xs z → Contains ys z
  rest_has x y xs ys h same sub z w = elim (first_cases y ys z (sub z (behind x xs z w))) [
    | inl e ↦ (let r = subst (R x) (sym (same ∙ e)) (before x xs h z w) in absurd (apart x x r r))
    | inr v ↦ v
  ]

  pub same_sorted : (xs ys : List X) → AllPairs R xs → AllPairs R ys → ((z : X) → Contains xs z → Contains ys z)
      → ((z : X) → Contains ys z → Contains xs z) → xs ≡ ys
  same_sorted [] [] h k sub sup = refl
  same_sorted [] (y ∷ ys) h k sub sup = absurd (let w = sup y (0, omega arith, refl) in let l = w.1 in omega arith)
  same_sorted (x ∷ xs) [] h k sub sup = absurd (let w = sub x (0, omega arith, refl) in let l = w.1 in omega arith)
  same_sorted (x ∷ xs) (y ∷ ys) h k sub sup =
      let same = heads x y xs ys h k (sub x (0, omega arith, refl)) (sup y (0, omega arith, refl)) in
      ap₂ (λ (a : X) (cs : List X). a ∷ cs) same
      (same_sorted xs ys (rest_pairs x xs h) (rest_pairs y ys k) (rest_has x y xs ys h same sub) (rest_has y x ys xs k (sym same) sup))
    where
      heads : (x y : X) (xs ys : List X) → AllPairs R (x ∷ xs) → AllPairs R (y ∷ ys) → Contains (y ∷ ys) x → Contains (x ∷ xs) y → x ≡ y
      heads x y xs ys h k v w = elim (first_cases y ys x v) [
        | inl e ↦ sym e
        | inr a ↦ elim (first_cases x xs y w) [
          | inl e ↦ e
          | inr b ↦ absurd (apart x y (before x xs h y b) (before y ys k x a))
        ]
      ]

-- lists side by side with one thing for each
pub same_zip : {A B : Type 0} (R : A → B → Type 0) → ((a : A) (b c : B) → R a b → R a c → b ≡ c) → (xs : List A) (ys zs : List B)
    → AllZip R xs ys → AllZip R xs zs → ys ≡ zs
same_zip R one [] [] [] h k = refl
same_zip R one [] [] (z ∷ zs) h k = absurd k
same_zip R one [] (y ∷ ys) zs h k = absurd h
same_zip R one (x ∷ xs) [] zs h k = absurd h
same_zip R one (x ∷ xs) (y ∷ ys) [] h k = absurd k
same_zip R one (x ∷ xs) (y ∷ ys) (z ∷ zs) h k = ap₂ (λ a cs. a ∷ cs) (one x y z h.0 k.0) (same_zip R one xs ys zs h.1 k.1)

-- lists of things that are given by a number and by what holds of them
pub same_by : {X Y : Type 0} (f : X → Y) (P Q : X → Type 0) → ((x y : X) → f x ≡ f y → P x → Q y → x ≡ y) → (xs ys : List X)
    → map f xs ≡ map f ys → All P xs → All Q ys → xs ≡ ys
same_by f P Q one [] [] e h k = refl
same_by f P Q one [] (y ∷ ys) e h k = absurd (cc e)
same_by f P Q one (x ∷ xs) [] e h k = absurd (cc e)
same_by f P Q one (x ∷ xs) (y ∷ ys) e h k =
    let head : f x ≡ f y = cc e in
    let tail : map f xs ≡ map f ys = cc e in
    ap₂ (λ a cs. a ∷ cs) (one x y head (All-head P x xs h) (All-head Q y ys k)) (same_by f P Q one xs ys tail (All-tail P x xs h) (All-tail Q y ys k))

-- lists with the same thing at each place
pub same_places : {X : Type 0} (P : ℕ → X → Type 0) → ((n : ℕ) (x y : X) → P n x → P n y → x ≡ y) → (n : ℕ) (xs ys : List X) → length xs ≡ length ys
    → ((k : ℕ) (x : X) → slice_get xs k ≡ Some x → P (n + k) x) → ((k : ℕ) (y : X) → slice_get ys k ≡ Some y → P (n + k) y) → xs ≡ ys
same_places P one n [] [] e h k = refl
same_places P one n [] (y ∷ ys) e h k = absurd (omega (arith, e))
same_places P one n (x ∷ xs) [] e h k = absurd (omega (arith, e))
same_places P one n (x ∷ xs) (y ∷ ys) e h k = ap₂ (λ a cs. a ∷ cs) (one (n + 0) x y (h 0 x refl) (k 0 y refl))
    (same_places P one (n + 1) xs ys (omega (arith, e))
    (λ i z w. subst (λ (m : ℕ). P m z) (omega arith) (h (suc i) z w)) (λ i z w. subst (λ (m : ℕ). P m z) (omega arith) (k (suc i) z w)))
