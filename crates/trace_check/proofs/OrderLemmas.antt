-- The order of a shape's nodes, as sets of their numbers.
use Rattle.std.proofs.Common.{◌≡◌, ℕ, ◌+◌, ◌<◌, ◌==◌, ◌&&◌, ◌||◌, ◌↔◌, inl, inr, Bool, true, false, not, List, [], ◌∷◌, ◌++◌, map, length, get_or, take, IsTrue}
use Rattle.std.proofs.Common.{refl, sym, ap, ◌∙◌, subst}
use Rattle.std.specs.Prelude.{Contains, IsBitSet}
use Rattle.std.specs.List.{list_any}
use Rattle.std.proofs.lemmas.Bool.{true≢false, false_from_ne_true, and_parts, or_cases}
use Rattle.std.proofs.lemmas.Bool.Decides.{Decides-eqb}
use Rattle.std.proofs.lemmas.List.{map_more}
use Rattle.std.proofs.lemmas.List.Elements.{Contains-append_left, Contains-push, Contains-push_cases}
use Rattle.std.proofs.lemmas.List.Folds.{list_any_more, Any-from_list_any}
use Rattle.pw_graph.specs.declared.shape.Shape.{Shape}
use Rattle.pw_graph.specs.declared.shape.ShapeNode.{ShapeNode}
use Rattle.pw_graph.specs.declared.shape.ShapeLink.{ShapeLink}
use Rattle.pw_graph.specs.Dependencies.{nodes_of, joins, are_linked, Precedes}
use Rattle.pw_graph.specs.SoundShape.{IsSoundShape, IsSoundLink}
use Rattle.trace_check.specs.working.NodeSets.{Gains, Loses}
use Rattle.trace_check.specs.working.Admitting.{IsSetOf}
use Rattle.trace_check.proofs.NodeSetsLemmas.{none_set}
use Rattle.trace_check.proofs.AdmittingLemmas.{precedes_driver}

pub empty_set : (holds : ℕ → Type 0) → ((n : ℕ) → ¬ holds n) → IsSetOf 0 holds
empty_set holds none n lt = (λ b. absurd (none_set n b), λ h. absurd (none n h))

-- one node more
pub node_more : (nodes : List ShapeNode) (i : ℕ) (d : ShapeNode) (set new : ℕ) → i < length nodes
    → IsSetOf set (λ n. Contains (map (λ m. m.node) (take i nodes)) n) → Gains set (get_or nodes i d).node new
    → IsSetOf new (λ n. Contains (map (λ m. m.node) (take (i + 1) nodes)) n)
node_more nodes i d set new lt old gains n small =
    let x : ℕ = (get_or nodes i d).node in
    let before : List ℕ = map (λ m. m.node) (take i nodes) in
    let same : map (λ m. m.node) (take (i + 1) nodes) ≡ before ++ x ∷ [] = map_more (λ (m : ShapeNode). m.node) nodes i d lt in
    subst (λ l. IsBitSet new n ↔ Contains l n) (sym same) (
      λ b. elim ((gains n small).0 b) [
        | inl f ↦ Contains-append_left before (x ∷ []) n ((old n small).0 f)
        | inr e ↦ subst (Contains (before ++ x ∷ [])) (sym e) (Contains-push before x)
      ],
      λ c. (gains n small).1 (elim (Contains-push_cases before x n c) [ inl f ↦ inl ((old n small).1 f) | inr e ↦ inr (sym e) ]),
    )

-- one link more: it leads to the node, or not
joins_is : (m n : ℕ) (l : ShapeLink) → joins m n l ≡ true → (l.delayed ≡ false) × (l.from.node ≡ m) × (l.to.node ≡ n)
joins_is m n l t =
    let a = and_parts (not l.delayed) ((l.from.node == m) && (l.to.node == n)) t in
    let b = and_parts (l.from.node == m) (l.to.node == n) a.1 in
    (not_true l.delayed a.0, (Decides-eqb _ _).0 b.0, (Decides-eqb _ _).0 b.1)
  where
    not_true : (b : Bool) → not b ≡ true → b ≡ false
    not_true true e = absurd (true≢false (sym e))
    not_true false e = refl

is_joins : (m n : ℕ) (l : ShapeLink) → l.delayed ≡ false → l.from.node ≡ m → l.to.node ≡ n → joins m n l ≡ true
is_joins m n l d f t = rw (d, (Decides-eqb l.from.node m).1 f, (Decides-eqb l.to.node n).1 t) refl

module _ (links : List ShapeLink) (i : ℕ) (d : ShapeLink) (set node : ℕ) (lt : i < length links)
    (old : IsSetOf set (λ m. IsTrue (list_any (joins m node) (take i links)))) where
  more : (m : ℕ) → list_any (joins m node) (take (i + 1) links) ≡ (list_any (joins m node) (take i links) || joins m node (get_or links i d))
  more m = list_any_more (joins m node) links i d lt

  pub link_more : (new : ℕ) → (get_or links i d).delayed ≡ false → (get_or links i d).to.node ≡ node → Gains set (get_or links i d).from.node new
      → IsSetOf new (λ m. IsTrue (list_any (joins m node) (take (i + 1) links)))
  link_more new here to gains m small = (
    λ b. more m ∙ elim ((gains m small).0 b) [
      | inl f ↦ ap (λ x. x || joins m node (get_or links i d)) ((old m small).0 f)
      | inr e ↦ or_second (list_any (joins m node) (take i links)) (joins m node (get_or links i d)) (is_joins m node (get_or links i d) here (sym e) to)
    ],
    λ t. (gains m small).1 (elim (or_cases _ _ (sym (more m) ∙ t)) [ inl f ↦ inl ((old m small).1 f) | inr j ↦ inr (sym (joins_is m node (get_or links i d) j).1) ]),
  ) where
    or_second : (a b : Bool) → b ≡ true → (a || b) ≡ true
    or_second true b e = refl
    or_second false b e = e

  pub link_other : ((m : ℕ) → joins m node (get_or links i d) ≡ false) → IsSetOf set (λ m. IsTrue (list_any (joins m node) (take (i + 1) links)))
  link_other none m small = (
    λ b. more m ∙ ap (λ x. x || joins m node (get_or links i d)) ((old m small).0 b),
    λ t. elim (or_cases _ _ (sym (more m) ∙ t)) [ inl f ↦ (old m small).1 f | inr j ↦ absurd (true≢false (sym j ∙ none m)) ],
  )

pub delayed_joins_none : (l : ShapeLink) (node m : ℕ) → l.delayed ≡ true → joins m node l ≡ false
delayed_joins_none l node m e = false_from_ne_true (joins m node l) (λ t. true≢false (sym e ∙ (joins_is m node l t).0))

pub other_joins_none : (l : ShapeLink) (node m : ℕ) → ¬ (l.to.node ≡ node) → joins m node l ≡ false
other_joins_none l node m ne = false_from_ne_true (joins m node l) (λ t. ne (joins_is m node l t).2)

-- a follower is preceded by the nodes from which links lead to it
module _ (shape : Shape) (sound : IsSoundShape shape) (n : ℕ) (follows : ¬ (n ≡ shape.driver)) where
  linked_precedes : (m : ℕ) → are_linked shape m n ≡ true → Precedes shape m n
  linked_precedes m t =
      let a = Any-from_list_any (joins m n) shape.links t in
      let j = joins_is m n a.1 a.4 in
      let link = subst (IsSoundLink shape) a.3 (sound.links.each a.0 a.1 a.2) in record {
        depends = record {
          from_active = subst (Contains (nodes_of shape)) j.1 link.from_active;
          to_active = subst (Contains (nodes_of shape)) j.2 link.to_active;
          waits = linked_waits (m == shape.driver) (n == shape.driver) (are_linked shape m n) t;
        };
        follower = λ e. link.from_follower (j.1 ∙ e);
      }
    where
      linked_waits : (a b c : Bool) → c ≡ true → (a || (b || c)) ≡ true
      linked_waits true b c e = refl
      linked_waits false true c e = refl
      linked_waits false false c e = e

  precedes_linked : (m : ℕ) → Precedes shape m n → are_linked shape m n ≡ true
  precedes_linked m p = elim (or_cases (m == shape.driver) ((n == shape.driver) || are_linked shape m n) p.depends.waits) [
    | inl t ↦ absurd (p.follower ((Decides-eqb m shape.driver).0 t))
    | inr t ↦ elim (or_cases (n == shape.driver) (are_linked shape m n) t) [
      | inl u ↦ absurd (follows ((Decides-eqb n shape.driver).0 u))
      | inr l ↦ l
    ]
  ]

  pub before_follower : (set : ℕ) → IsSetOf set (λ m. IsTrue (are_linked shape m n)) → IsSetOf set (λ m. Precedes shape m n)
  before_follower set h m small = (λ b. linked_precedes m ((h m small).0 b), λ p. (h m small).1 (precedes_linked m p))

pub before_driver : (shape : Shape) → IsSoundShape shape → (active set : ℕ) → IsSetOf active (λ n. Contains (nodes_of shape) n)
    → Loses active shape.driver set → IsSetOf set (λ m. Precedes shape m shape.driver)
before_driver shape sound active set h loses m small = (
  λ b. let l = (loses m small).0 b in precedes_driver shape sound m ((h m small).0 l.0) l.1,
  λ p. (loses m small).1 ((h m small).1 p.depends.from_active, p.follower),
)
