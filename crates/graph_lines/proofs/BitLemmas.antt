-- The bits of the nodes that keep their formats, one node after the other.
use Rattle.std.proofs.Common.{◌≡◌, ◌≢◌, inl, inr, ℕ, ◌+◌, ◌<◌, ◌≤◌, List, true, false, sym, ap, ◌∙◌, arith}
use Rattle.std.specs.Prelude.{◌↔◌}
use Rattle.std.specs.Int.{bit_at}
use Rattle.std.proofs.lemmas.Bool.{cases_eq}
use Rattle.graph_lines.specs.declared.standing.Standing.{Standing}
use Rattle.graph_lines.specs.Activity.{standing}

-- of the first nodes the bits of those that keep theirs, and no other
pub record HasKeptBelow (nodes : List Standing) (count keep : ℕ) : Type 0 where
  pub bits : (n : ℕ) → n < 64 → n < count → (bit_at keep n ≡ 1) ↔ ((standing nodes n).kept ≡ true)
  pub none : (n : ℕ) → n < 64 → count ≤ n → bit_at keep n ≡ 0

pub kept_more : (nodes : List Standing) (n keep next : ℕ) → n < 64 → (standing nodes n).kept ≡ true → bit_at next n ≡ 1
    → ((i : ℕ) → i ≢ n → bit_at next i ≡ bit_at keep i) → HasKeptBelow nodes n keep → HasKeptBelow nodes (n + 1) next
kept_more nodes n keep next l kept here others h = record {
  bits = λ m low below. elim (cases_eq m n) [
    | inl same ↦ ((λ e. ap (λ (k : ℕ). (standing nodes k).kept) same ∙ kept), (λ e. ap (bit_at next) same ∙ here))
    | inr other ↦ let old = h.bits m low (omega (arith, below, other)) in
        ((λ e. old.0 (sym (others m other) ∙ e)), (λ e. others m other ∙ old.1 e))
  ];
  none = λ m low above. others m (λ e. omega (arith, e, above)) ∙ h.none m low (omega (arith, above));
}

pub kept_same : (nodes : List Standing) (n keep : ℕ) → n < 64 → (standing nodes n).kept ≡ false → HasKeptBelow nodes n keep
    → HasKeptBelow nodes (n + 1) keep
kept_same nodes n keep l not_kept h = record {
  bits = λ m low below. elim (cases_eq m n) [
    | inl same ↦ (
      (λ e. absurd (zero_one (bit_at keep m) (h.none m low (omega (arith, same))) e)),
      (λ e. absurd (differ (sym (ap (λ (k : ℕ). (standing nodes k).kept) same ∙ not_kept) ∙ e))),
    )
    | inr other ↦ h.bits m low (omega (arith, below, other))
  ];
  none = λ m low above. h.none m low (omega (arith, above));
} where
  zero_one : (n : ℕ) → n ≡ 0 → n ≡ 1 → ⊥
  zero_one n e d = omega (arith, e, d)

  differ : false ≡ true → ⊥
  differ e = cc
