-- The best of the candidates, one node after the other.
use Rattle.std.proofs.Common.{◌≡◌, inl, inr, ℕ, ◌+◌, ◌≤◌, List, length, Option, Some, None, true, false, Bool, cond}
use Rattle.std.proofs.Common.{◌&&◌, refl, sym, ap, ◌∙◌, arith, get_or}
use Rattle.std.proofs.lemmas.Bool.{cases_eq, cases_lt}
use Rattle.std.proofs.lemmas.List.{get_or_past}
use Rattle.pw_graph.specs.declared.kind.Kind.{Kind}
use Rattle.pw_graph.specs.declared.kind.Kind.TheVariants.{Dummy}
use Rattle.graph_lines.specs.declared.standing.Standing.{Standing}
use Rattle.graph_lines.specs.declared.shaping.driving.Candidate.{Candidate}
use Rattle.graph_lines.specs.Activity.{nobody, may_drive, candidacy, IsDriver}
use Rattle.graph_lines.specs.Searching.{IsBest}

-- the best stays where the next has no greater priority
pub best_stays : (kinds : List Kind) (nodes : List Standing) (node : ℕ) (first : Candidate) (priority : ℕ)
    → candidacy kinds nodes node ≡ Some priority → priority ≤ first.priority → IsBest kinds nodes node (Some first)
    → IsBest kinds nodes (node + 1) (Some first)
best_stays kinds nodes node first priority e le best = (
  best.0,
  (let b = best.1 in omega (arith, b)),
  λ m q below c. elim (cases_eq m node) [
    | inl same ↦
        let p : q ≡ priority = let d : Some q ≡ Some priority = sym c ∙ (ap (candidacy kinds nodes) same ∙ e) in cc in
        elim (cases_lt q first.priority) [
          | inl lt ↦ inl lt
          | inr ge ↦ inr (omega (arith, p, le, ge), (let b = best.1 in omega (arith, b, same)))
        ]
    | inr other ↦ best.2 m q (omega (arith, below, other)) c
  ],
)

and_false : (b : Bool) → (b && false) ≡ false
and_false true = refl
and_false false = refl

-- a number without a node is no candidate
pub no_candidacy : (kinds : List Kind) (nodes : List Standing) (m : ℕ) → length nodes ≤ m → candidacy kinds nodes m ≡ None
no_candidacy kinds nodes m l = ap chosen (get_or_past nodes m nobody l) ∙ ap (λ (b : Bool). cond b None None) (and_false (may_drive (get_or kinds m Dummy)))
  where
    chosen : Standing → Option ℕ
    chosen s = cond (may_drive (get_or kinds m Dummy) && s.on) s.priority None

pub best_drives : (kinds : List Kind) (nodes : List Standing) (i : ℕ) (first : Candidate) → length nodes ≤ i
    → IsBest kinds nodes i (Some first) → IsDriver kinds nodes first.node
best_drives kinds nodes i first l best = inr (
  first.priority,
  (
    best.0,
    λ m q c. elim (cases_lt m i) [
      | inl lt ↦ best.2 m q lt c
      | inr ge ↦ absurd (differ q (sym (no_candidacy kinds nodes m (omega (arith, l, ge))) ∙ c))
    ],
  ),
) where
  differ : (q : ℕ) → None ≡ Some q → ⊥
  differ q p = cc

pub none_drives : (kinds : List Kind) (nodes : List Standing) (i : ℕ) → length nodes ≤ i → IsBest kinds nodes i None → IsDriver kinds nodes 63
none_drives kinds nodes i l best = inl (
  (λ m. elim (cases_lt m i) [
    | inl lt ↦ best m lt
    | inr ge ↦ no_candidacy kinds nodes m (omega (arith, l, ge))
  ]),
  refl,
)
