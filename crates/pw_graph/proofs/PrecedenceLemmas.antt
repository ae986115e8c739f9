-- Laws of `specs/Dependencies.antt`: required counts are those of the dependencies, targets and
-- dependencies are inverse, and in a sound shape an order rises from each node to those that it
-- precedes, so that no walk along links that are not delayed leads back.
use Rattle.std.proofs.Common.{◌≡◌, ℕ, zero, suc, ◌<◌, ◌≤◌, ◌==◌, ◌&&◌, ◌||◌, ◌↔◌, inl, inr, Bool, true, false, cond, not}
use Rattle.std.proofs.Common.{List, [], ◌∷◌, length, get_or, refl, sym, ◌∙◌, ap, subst, arith}
use mathlib.Core.Logic.{dite}
use native.Mathlib.Decide.{ℕ_discrete}
use Rattle.std.specs.Prelude.{◌≢◌, filter, All, Contains, sum_by}
use Rattle.std.proofs.lemmas.Bool.{false_from_ne_true, and_parts, or_cases}
use Rattle.std.proofs.lemmas.Bool.Decides.{Decides-eqb}
use Rattle.std.proofs.lemmas.List.Folds.{Any-from_list_any}
use Rattle.std.proofs.lemmas.List.Sums.{get_or-le-sum_by}
use Rattle.std.proofs.lemmas.List.Elements.{All-contains, All-contains_itself, All-filter, filter_passes, Contains-append_left}
use Rattle.std.proofs.lemmas.List.Elements.{Contains-append_right, Contains-append_cases}
use Rattle.pw_graph.specs.declared.shape.Shape.{Shape}
use Rattle.pw_graph.specs.LinkOrder.{HasOrder}
use Rattle.pw_graph.specs.SoundShape.{HasSoundNodes, IsSoundShape}
use Rattle.pw_graph.specs.Dependencies.{nodes_of, joins, are_linked, waits, IsDependency, dependencies_of, targets_of, Precedes}

-- what a filter holds
held : {X : Type 0} (p : X → Bool) (xs : List X) (x : X) → Contains (filter p xs) x → Contains xs x × (p x ≡ true)
held p xs x c = (
  All-contains (Contains xs) (filter p xs) x (All-filter p (Contains xs) xs (All-contains_itself xs)) c,
  All-contains (λ y. p y ≡ true) (filter p xs) x (filter_passes p xs) c,
)

in_front : {X : Type 0} (b : Bool) (y x : X) (ys : List X) → b ≡ true → y ≡ x → Contains (cond b (y ∷ ys) ys) x
in_front true y x ys t e = (0, omega arith, e)
in_front false y x ys t e = cc

behind : {X : Type 0} (b : Bool) (y x : X) (ys : List X) → Contains ys x → Contains (cond b (y ∷ ys) ys) x
behind true y x ys c = Contains-append_right (y ∷ []) ys x c
behind false y x ys c = c

pub holds_at : {X : Type 0} (p : X → Bool) (xs : List X) (x : X) (k : ℕ) → p x ≡ true → k < length xs → get_or xs k x ≡ x
    → Contains (filter p xs) x
holds_at p [] x k t lt e = absurd (omega arith)
holds_at p (y ∷ ys) x zero t lt e = in_front (p y) y x (filter p ys) (ap p e ∙ t) e
holds_at p (y ∷ ys) x (suc k) t lt e = behind (p y) y x (filter p ys) (holds_at p ys x k t (omega arith) e)

-- the dependencies of a node are what it depends on
pub dependencies_are : (shape : Shape) (m n : ℕ) → Contains (nodes_of shape) n → Contains (dependencies_of shape n) m ↔ IsDependency shape m n
dependencies_are shape m n here = (
  λ c. let h = held (waits shape n) (nodes_of shape) m c in record { from_active = h.0; to_active = here; waits = h.1 },
  λ d. holds_at (waits shape n) (nodes_of shape) m d.from_active.0 d.waits d.from_active.1 d.from_active.2,
)

not_true : (a : Bool) → not a ≡ true → a ≡ false
not_true true e = cc
not_true false e = refl

-- a walk along links that are not delayed, of one link and n more
abbrev pub Walks : Shape → ℕ → ℕ → ℕ → Type 0
Walks shape zero m n = are_linked shape m n ≡ true
Walks shape (suc more) m n = (j : ℕ) × (are_linked shape m j ≡ true) × Walks shape more j n

-- the rank of an order of the links, with the driver above all
module _ (shape : Shape) (h : HasOrder shape.links) where
  pub precedence_rank : ℕ → ℕ
  precedence_rank n = cond (n == shape.driver) (suc (sum_by h.rank (nodes_of shape))) (h.rank n)

  at_driver : precedence_rank shape.driver ≡ suc (sum_by h.rank (nodes_of shape))
  unfolding precedence_rank
  at_driver = rw ((Decides-eqb shape.driver shape.driver).1 refl) refl

  at_follower : (n : ℕ) → n ≢ shape.driver → precedence_rank n ≡ h.rank n
  unfolding precedence_rank
  at_follower n ne = rw (false_from_ne_true (n == shape.driver) (λ t. ne ((Decides-eqb n shape.driver).0 t))) refl

  below_all : (m : ℕ) → Contains (nodes_of shape) m → h.rank m ≤ sum_by h.rank (nodes_of shape)
  below_all m c = let e : h.rank (get_or (nodes_of shape) c.0 m) ≡ h.rank m = ap h.rank c.2 in
      let le = get_or-le-sum_by h.rank (nodes_of shape) c.0 m c.1 in omega arith

  along : (m n : ℕ) → are_linked shape m n ≡ true → h.rank m < h.rank n
  along m n t =
      let a = Any-from_list_any (joins m n) shape.links t in
      let p = and_parts _ _ a.4 in
      let q = and_parts _ _ p.1 in
      let rise : h.rank a.1.from.node < h.rank a.1.to.node =
      subst (λ l. h.rank l.from.node < h.rank l.to.node) a.3 (h.rises a.0 a.1 a.2 (ap (λ l. l.delayed) a.3 ∙ not_true _ p.0)) in
      let from : h.rank a.1.from.node ≡ h.rank m = ap h.rank ((Decides-eqb _ _).0 q.0) in
      let to : h.rank a.1.to.node ≡ h.rank n = ap h.rank ((Decides-eqb _ _).0 q.1) in
      omega arith

  -- each node is after what precedes it
  pub precedence_rises : (m n : ℕ) → Precedes shape m n → precedence_rank m < precedence_rank n
  precedence_rises m n p =
      let low : precedence_rank m ≡ h.rank m = at_follower m p.follower in
      dite (ℕ_discrete n shape.driver)
      (λ e. let top : precedence_rank n ≡ suc (sum_by h.rank (nodes_of shape)) = ap precedence_rank e ∙ at_driver in
      let le : h.rank m ≤ sum_by h.rank (nodes_of shape) = below_all m p.depends.from_active in omega arith)
      (λ ne. let same : precedence_rank n ≡ h.rank n = at_follower n ne in
      let rise : h.rank m < h.rank n = elim (or_cases _ _ p.depends.waits) [
        | inl t ↦ absurd (p.follower ((Decides-eqb _ _).0 t))
        | inr t ↦ elim (or_cases _ _ t) [ inl u ↦ absurd (ne ((Decides-eqb _ _).0 u)) | inr u ↦ along m n u ]
      ] in omega arith)

  -- so no node precedes itself
  pub precedes_irreflexive : (n : ℕ) → ¬ Precedes shape n n
  precedes_irreflexive n p = let t = precedence_rises n n p in absurd (omega arith)

  -- a walk goes up, and so never leads back
  walk_rises : (more m n : ℕ) → Walks shape more m n → h.rank m < h.rank n
  walk_rises zero m n w = along m n w
  walk_rises (suc more) m n w =
      let first : h.rank m < h.rank w.0 = along m w.0 w.1 in
      let rest : h.rank w.0 < h.rank n = walk_rises more w.0 n w.2 in
      omega arith

  pub no_walk_returns : (more n : ℕ) → ¬ Walks shape more n n
  no_walk_returns more n w = let t = walk_rises more n n w in absurd (omega arith)

-- in a sound shape each node is after what precedes it, in some order
pub sound_order : (shape : Shape) → IsSoundShape shape → (rank : ℕ → ℕ) × ((m n : ℕ) → Precedes shape m n → rank m < rank n)
sound_order shape h = (precedence_rank shape h.links.order, precedence_rises shape h.links.order)

-- in a sound shape a node's required count is the number of its dependencies
pub required_is : (shape : Shape) → IsSoundShape shape → All (λ n. n.required ≡ length (dependencies_of shape n.node)) shape.nodes
required_is shape h k d lt = (h.counts k d lt).0

both : (a b : Bool) → a ≡ false → b ≡ true → (not a && b) ≡ true
both true b e f = cc
both false b e f = f

only : {d n : ℕ} → Contains (d ∷ []) n → d ≡ n
only {d} {n} (zero, lt, e) = e
only {d} {n} (suc k, lt, e) = absurd (omega arith)

or_here : (a b c : Bool) → b ≡ true → (a || (b || c)) ≡ true
or_here true b c e = refl
or_here false true c e = refl
or_here false false c e = cc

driver_waits_for : (shape : Shape) (m n : ℕ) → shape.driver ≡ n → waits shape n m ≡ true
driver_waits_for shape m n e = or_here (m == shape.driver) (n == shape.driver) (are_linked shape m n)
    ((Decides-eqb n shape.driver).1 (sym e))

-- the targets of a node are those that depend on it
module _ (shape : Shape) (m n : ℕ) (nodes : HasSoundNodes shape) (from : Contains (nodes_of shape) m) where
  pub targets_depend : Contains (targets_of shape m) n → IsDependency shape m n
  targets_depend c = elim (Contains-append_cases _ (shape.driver ∷ []) n c) [
    | inl f ↦ (let h = held (λ k. not (k == shape.driver) && waits shape k m) (nodes_of shape) n f in
        record { from_active = from; to_active = h.0; waits = (and_parts _ _ h.1).1 })
    | inr d ↦ (let e : shape.driver ≡ n = only d in
        record { from_active = from; to_active = subst (Contains (nodes_of shape)) e nodes.driver; waits = driver_waits_for shape m n e })
  ]

  pub dependents_are_targets : IsDependency shape m n → Contains (targets_of shape m) n
  dependents_are_targets d = dite (ℕ_discrete n shape.driver)
      (λ e. Contains-append_right _ (shape.driver ∷ []) n (0, omega arith, sym e))
      (λ ne. Contains-append_left _ (shape.driver ∷ []) n
      (holds_at (λ k. not (k == shape.driver) && waits shape k m) (nodes_of shape) n d.to_active.0
      (both _ _ (false_from_ne_true (n == shape.driver) (λ t. ne ((Decides-eqb n shape.driver).0 t))) d.waits) d.to_active.1 d.to_active.2))
