-- Things of lists: those that pass a test, those that replace others, and lists side by side.
use Rattle.std.proofs.Common.{◌≡◌, ℕ, zero, suc, ◌<◌, List, [], ◌∷◌, length, get_or, map, Bool, true, false, cond}
use Rattle.std.proofs.Common.{refl, sym, ap, ◌∙◌, subst, arith, ◌==◌}
use Rattle.std.specs.Prelude.{slice_get, IfSome, Some}
use Rattle.std.specs.List.{All, AllPairs, AllZip, Contains, filter, list_any}
use Rattle.std.proofs.lemmas.Bool.{eqb-true, or_left, or_right}
use Rattle.std.proofs.lemmas.List.Elements.{All-nil, All-cons, Contains-get_or}
use Rattle.std.proofs.lemmas.List.Folds.{Any-from_list_any}
use Rattle.port_model.specs.PortState.{changed}

-- one thing more in front
pub behind : {X : Type 0} (y : X) (ys : List X) (x : X) → Contains ys x → Contains (y ∷ ys) x
behind y ys x w = (let l = w.1 in (suc w.0, omega arith, w.2))

-- what passes is among all, and passes
module _ {X : Type 0} (p : X → Bool) where
  found : (y : X) (ys : List X) (x : X) → (Contains (filter p ys) x → Contains ys x × (p x ≡ true)) → (b : Bool) → p y ≡ b
      → Contains (cond b (y ∷ filter p ys) (filter p ys)) x → Contains (y ∷ ys) x × (p x ≡ true)
  found y ys x rest true e v = go v.0 v.1 v.2 where
    go : (k : ℕ) → k < length (y ∷ filter p ys) → get_or (y ∷ filter p ys) k x ≡ x → Contains (y ∷ ys) x × (p x ≡ true)
    go zero l f = ((0, omega arith, f), ap p (sym f) ∙ e)
    go (suc k) l f = let r = rest (k, omega arith, f) in (behind y ys x r.0, r.1)
  found y ys x rest false e v = let r = rest v in (behind y ys x r.0, r.1)

  pub origin : (xs : List X) (x : X) → Contains (filter p xs) x → Contains xs x × (p x ≡ true)
  origin [] x w = (let l = w.1 in absurd (omega arith))
  origin (y ∷ ys) x w = found y ys x (origin ys x) (p y) refl w

  later : (b : Bool) (y x : X) (zs : List X) → Contains zs x → Contains (cond b (y ∷ zs) zs) x
  later true y x zs w = behind y zs x w
  later false y x zs w = w

  kept_at : (xs : List X) (k : ℕ) (x : X) → k < length xs → get_or xs k x ≡ x → p x ≡ true → Contains (filter p xs) x
  kept_at [] k x l e t = absurd (omega arith)
  kept_at (y ∷ ys) zero x l e t = subst (λ (b : Bool). Contains (cond b (y ∷ filter p ys) (filter p ys)) x) (sym (ap p e ∙ t))
      (0, omega arith, e)
  kept_at (y ∷ ys) (suc k) x l e t = later (p y) y x (filter p ys) (kept_at ys k x (omega arith) e t)

  pub kept : (xs : List X) (x : X) → Contains xs x → p x ≡ true → Contains (filter p xs) x
  kept xs x w t = kept_at xs w.0 x w.1 w.2 t

-- what replaces a thing is among what replaces all
pub stands_for : {X Y : Type 0} (f : X → Y) (xs : List X) (x : X) → Contains xs x → Contains (map f xs) (f x)
stands_for f xs x w = go xs w.0 w.1 w.2 where
  go : (ys : List _) (k : ℕ) → k < length ys → get_or ys k x ≡ x → Contains (map f ys) (f x)
  go [] k l e = absurd (omega arith)
  go (y ∷ ys) zero l e = (0, omega arith, ap f e)
  go (y ∷ ys) (suc k) l e = behind (f y) (map f ys) (f x) (go ys k (omega arith) e)

-- a number that a test finds is there
pub number_found : (xs : List ℕ) (n : ℕ) → list_any (λ m. m == n) xs ≡ true → Contains xs n
number_found xs n e =
    let w = Any-from_list_any (λ (m : ℕ). m == n) xs e in
    let same : w.1 ≡ n = eqb-true w.1 n w.4 in
    (w.0, w.2, subst (λ (m : ℕ). get_or xs w.0 m ≡ m) same w.3)

-- what is at a place of a list is in it
pub contains_at : {X : Type 0} (xs : List X) (k : ℕ) (x : X) → slice_get xs k ≡ Some x → Contains xs x
contains_at [] k x e = absurd (cc e)
contains_at (y ∷ ys) zero x e = (0, omega arith, (let same : y ≡ x = cc in same))
contains_at (y ∷ ys) (suc k) x e = behind y ys x (contains_at ys k x e)

-- what holds of all that a list contains
pub all_of : {X : Type 0} (P : X → Type 0) (xs : List X) → ((x : X) → Contains xs x → P x) → All P xs
all_of P xs h = λ k d l. h (get_or xs k d) (Contains-get_or xs k d l)

pub pairs_of : {X : Type 0} (R : X → X → Type 0) (xs : List X) → ((x y : X) → Contains xs x → Contains xs y → R x y) → AllPairs R xs
pairs_of R xs h = λ i j d a b. h (get_or xs i d) (get_or xs j d) (Contains-get_or xs i d (omega arith)) (Contains-get_or xs j d b)

-- two lists side by side
module _ {A B : Type 0} (R : A → B → Type 0) where
  pub zip_length : (xs : List A) (ys : List B) → AllZip R xs ys → length xs ≡ length ys
  zip_length [] [] w = refl
  zip_length [] (y ∷ ys) w = absurd w
  zip_length (x ∷ xs) [] w = absurd w
  zip_length (x ∷ xs) (y ∷ ys) w = ap suc (zip_length xs ys w.1)

  pub zip_at : (xs : List A) (ys : List B) (i : ℕ) (d : A) (e : B) → AllZip R xs ys → i < length xs → R (get_or xs i d) (get_or ys i e)
  zip_at [] ys i d e w l = absurd (omega arith)
  zip_at (x ∷ xs) [] i d e w l = absurd w
  zip_at (x ∷ xs) (y ∷ ys) zero d e w l = w.0
  zip_at (x ∷ xs) (y ∷ ys) (suc i) d e w l = zip_at xs ys i d e w.1 (omega arith)

  pub zip_all : (P : B → Type 0) (xs : List A) (ys : List B) → ((x : A) (y : B) → Contains xs x → R x y → P y) → AllZip R xs ys → All P ys
  zip_all P [] [] h w = All-nil P
  zip_all P [] (y ∷ ys) h w = absurd w
  zip_all P (x ∷ xs) [] h w = absurd w
  zip_all P (x ∷ xs) (y ∷ ys) h w = All-cons P y ys (h x y (0, omega arith, refl) w.0)
      (zip_all P xs ys (λ a b c r. h a b (behind x xs a c) r) w.1)

-- what is in a list one of whose things is changed
pub changed_keeps : {X : Type 0} (Q : X → Type 0) (xs : List X) (i j : ℕ) (f : X → X) → ((x : X) → Q x → Q (f x))
    → IfSome (slice_get xs j) Q → IfSome (slice_get (changed xs i f) j) Q
changed_keeps Q [] i j f h w = w
changed_keeps Q (x ∷ xs) zero zero f h w = h x w
changed_keeps Q (x ∷ xs) zero (suc j) f h w = w
changed_keeps Q (x ∷ xs) (suc i) zero f h w = w
changed_keeps Q (x ∷ xs) (suc i) (suc j) f h w = changed_keeps Q xs i j f h w

pub map_changed : {X Y : Type 0} (v : X → Y) (xs : List X) (i : ℕ) (f : X → X) → ((x : X) → v (f x) ≡ v x) → map v (changed xs i f) ≡ map v xs
map_changed v [] i f h = refl
map_changed v (x ∷ xs) zero f h = ap (λ (y : _). y ∷ map v xs) (h x)
map_changed v (x ∷ xs) (suc i) f h = ap (λ (ys : List _). v x ∷ ys) (map_changed v xs i f h)

-- a test that passes for something in a list finds it
pub any_of : {X : Type 0} (p : X → Bool) (xs : List X) (x : X) → Contains xs x → p x ≡ true → list_any p xs ≡ true
any_of p xs x w t = go xs w.0 w.1 w.2 where
  go : (ys : List _) (k : ℕ) → k < length ys → get_or ys k x ≡ x → list_any p ys ≡ true
  go [] k l e = absurd (omega arith)
  go (y ∷ ys) zero l e = or_left (p y) (list_any p ys) (ap p e ∙ t)
  go (y ∷ ys) (suc k) l e = or_right (p y) (list_any p ys) (go ys k (omega arith) e)
