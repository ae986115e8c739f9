-- Laws of `specs/Dependencies.antt` and `specs/SoundShape.antt` over plain lists.
use Rattle.std.proofs.Common.{◌≡◌, ℕ, ◌+◌, ◌<◌, ◌≤◌, ◌==◌, Bool, true, false, cond, ◌||◌, List, [], ◌∷◌, ◌++◌, map}
use Rattle.std.proofs.Common.{length, get_or, drop, take, refl, sym, ap, subst, arith, add-one, drop-cons}
use mathlib.Core.Logic.{dite}
use native.Mathlib.Decide.{ℕ_discrete}
use Rattle.std.specs.Prelude.{filter, Contains, All, AllPairs}
use Rattle.std.specs.Bool.{Decides}
use Rattle.std.specs.List.{list_any, count_by}
use Rattle.std.proofs.lemmas.List.Recursion.{is_count_by}
use Rattle.std.proofs.lemmas.Bool.Decides.{Decides-by_or, Decides-eqb, Decides-at}
use Rattle.std.proofs.lemmas.List.Elements.{Decides-contains, All-map, All-contains}
use Rattle.std.proofs.lemmas.List.{get_or_default, get_or-take, length-take, get_or-map, length-map}
use Rattle.pw_graph.specs.declared.shape.Shape.{Shape}
use Rattle.pw_graph.specs.Dependencies.{nodes_of}
use Rattle.pw_graph.specs.LinkOrder.{IsWithinNodes}
use Rattle.pw_graph.specs.SoundShape.{HasSoundNodes, IsSoundLink}

any_mapped : {X : Type 0} (p : ℕ → Bool) (f : X → ℕ) (xs : List X) → list_any (λ x. p (f x)) xs ≡ list_any p (map f xs)
any_mapped p f [] = refl
any_mapped p f (x ∷ xs) = ap (λ b. p (f x) || b) (any_mapped p f xs)

-- the test of each element for a number decides whether the numbers hold it
pub Decides-contains_mapped : {X : Type 0} (f : X → ℕ) (xs : List X) (n : ℕ) → Decides (list_any (λ x. f x == n) xs) (Contains (map f xs) n)
Decides-contains_mapped f xs n = Decides-at _ _ (any_mapped (λ y. y == n) f xs)
    (Decides-contains (map f xs) n _ (Decides-by_or (λ y. y == n) (λ y. y ≡ n) (list_any (λ y. y == n)) (λ y. Decides-eqb y n) refl
    (λ _ _. refl) (map f xs)))

-- the number of each element is one of the numbers
pub contains_mapped : {X : Type 0} (f : X → ℕ) (xs : List X) (k : ℕ) (d : X) → k < length xs → Contains (map f xs) (f (get_or xs k d))
contains_mapped f xs k d lt = (k, rw length-map lt, get_or-map f xs k d _ lt)

one_more : (b : Bool) (y : ℕ) (r : List ℕ) → length (cond b (y ∷ r) r) ≡ cond b (1 + length r) (length r)
one_more true y r = omega arith
one_more false y r = refl

pub length_filter_mapped : {X : Type 0} (p : ℕ → Bool) (f : X → ℕ) (xs : List X) → length (filter p (map f xs)) ≡ count_by (λ x. p (f x)) xs
length_filter_mapped p f xs = is_count_by (λ ys. length (filter p (map f ys))) (λ x. p (f x)) refl
    (λ y ys. one_more (p (f y)) (f y) (filter p (map f ys))) xs

-- R of all pairs of the first elements, and of each of them with the next one
module _ {X : Type 0} (R : X → X → Type 0) (xs : List X) (i : ℕ) (e : X) (lt : i < length xs) where
  pub pairs_more : ((j k : ℕ) (d : X) → j < k → k < i → R (get_or xs j d) (get_or xs k d)) → All (λ x. R x (get_or xs i e)) (take i xs)
      → (j k : ℕ) (d : X) → j < k → k < i + 1 → R (get_or xs j d) (get_or xs k d)
  pairs_more old new j k d jk ki = dite (ℕ_discrete k i)
      (λ q. subst (λ n. R (get_or xs j d) (get_or xs n d)) (sym q) (subst (λ x. R (get_or xs j d) x) (get_or_default xs i e d lt)
      (let t : j < i = omega arith in subst (λ x. R x (get_or xs i e)) (get_or-take i xs j d t) (new j d (rw length-take (omega arith))))))
      (λ ne. old j k d jk (omega arith))

  pub pairs_at : AllPairs R xs → All (λ x. R x (get_or xs i e)) (take i xs)
  pairs_at all k d kl =
      let t : k < i = omega (arith, length-take i xs) in
      subst (λ x. R x (get_or xs i e)) (sym (get_or-take i xs k d t))
      (subst (λ x. R (get_or xs k d) x) (get_or_default xs i d e lt) (all k i d t lt))

-- one more element of a filtered list of numbers, from the front
module _ {X : Type 0} (p : ℕ → Bool) (f : X → ℕ) (xs : List X) (i : ℕ) (d : X) (end : List ℕ) (lt : i < length xs) where
  pub front_on : p (f (get_or xs i d)) ≡ true → filter p (map f (drop i xs)) ++ end
      ≡ f (get_or xs i d) ∷ (filter p (map f (drop (i + 1) xs)) ++ end)
  front_on e = rw (add-one, drop-cons xs i d) (rw e refl)

  pub front_off : p (f (get_or xs i d)) ≡ false → filter p (map f (drop i xs)) ++ end ≡ filter p (map f (drop (i + 1) xs)) ++ end
  front_off e = rw (add-one, drop-cons xs i d) (rw e refl)

-- the links of sound nodes are between numbers below 64
pub links_within : (shape : Shape) → HasSoundNodes shape → All (IsSoundLink shape) shape.links → All IsWithinNodes shape.links
links_within shape nodes links k d lt =
    let small : All (λ n. n ≤ 63) (nodes_of shape) = All-map (λ n. n ≤ 63) (λ n. n.node) shape.nodes nodes.numbers in
    let from = All-contains (λ n. n ≤ 63) (nodes_of shape) _ small (links k d lt).from_active in
    let to = All-contains (λ n. n ≤ 63) (nodes_of shape) _ small (links k d lt).to_active in
    (omega arith, omega arith)
