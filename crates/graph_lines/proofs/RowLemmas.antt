-- Laws of the rows that say which node has a link to which.
use Rattle.std.proofs.Common.{◌≡◌, inl, inr, ℕ, ◌+◌, ◌*◌, ◌<◌, ◌==◌, ◌&&◌, ◌||◌, nat_lt, List, length, get_or, replicate}
use Rattle.std.proofs.Common.{take, Bool, true, false, not, cond, refl, sym, ap, ◌∙◌, arith}
use Rattle.std.specs.List.{list_any}
use Rattle.std.proofs.Math.ListN.{set}
use Rattle.std.proofs.lemmas.Bool.{eq-eqb, ltb-true, ltb-false}
use Rattle.std.proofs.lemmas.Bool.Decides.{eqb_tells}
use Rattle.std.proofs.lemmas.List.{get_or-set_same, get_or-set_other}
use Rattle.std.proofs.lemmas.List.Folds.{list_any_more}
use Rattle.pw_graph.specs.declared.shape.ShapeLink.{ShapeLink}
use Rattle.pw_graph.specs.Dependencies.{joins}
use Rattle.pw_graph.specs.LinkOrder.{IsWithinNodes}
use Rattle.graph_lines.specs.Searching.{is_in, is_linked, HasRows}
use Rattle.graph_lines.proofs.ActivityLemmas.{none_in}

or_false : (b : Bool) → b ≡ (b || false)
or_false true = refl
or_false false = refl

or_true : (b : Bool) → true ≡ (b || true)
or_true true = refl
or_true false = refl

and_false : (b : Bool) → (b && false) ≡ false
and_false true = refl
and_false false = refl

-- no number is in an empty row
pub none_linked : (count m n : ℕ) → is_linked (replicate count false) m n ≡ false
none_linked count m n = ap (λ (b : Bool). nat_lt n 64 && b) (none_in count (m * 64 + n)) ∙ and_false (nat_lt n 64)

-- one place more
put_at : (rows : List Bool) (k j : ℕ) (t : Bool) → k < length rows → is_in (cond t (set rows k true) rows) j ≡ (is_in rows j || (t && (k == j)))
put_at rows k j false l = or_false (is_in rows j)
put_at rows k j true l = elim (eqb_tells k j) [
  | inl w ↦ ap (is_in (set rows k true)) (sym w.1) ∙ (get_or-set_same rows k true false l
      ∙ (or_true (is_in rows j) ∙ ap (λ (b : Bool). is_in rows j || b) (sym w.0)))
  | inr w ↦ get_or-set_other rows k j true false (λ e. w.1 (sym e)) ∙ (or_false (is_in rows j) ∙ ap (λ (b : Bool). is_in rows j || b) (sym w.0))
]

-- two places are the same just where both numbers are
same_place : (k l m n : ℕ) → l < 64 → n < 64 → (k * 64 + l == m * 64 + n) ≡ ((k == m) && (l == n))
same_place k l m n below bound = elim (eqb_tells (k * 64 + l) (m * 64 + n)) [
  | inl w ↦ let e = w.1 in let row : k ≡ m = omega (arith, e, below, bound) in let place : l ≡ n = omega (arith, e, row) in
      w.0 ∙ (sym (eq-eqb l n place) ∙ ap (λ (b : Bool). b && (l == n)) (sym (eq-eqb k m row)))
  | inr w ↦ w.0 ∙ sym (apart (λ row place. w.1 (omega (arith, row, place))))
] where
  apart : (k ≡ m → l ≡ n → ⊥) → ((k == m) && (l == n)) ≡ false
  apart differ = elim (eqb_tells k m) [
    | inl v ↦ elim (eqb_tells l n) [
      | inl u ↦ absurd (differ v.1 u.1)
      | inr u ↦ ap (λ (b : Bool). (k == m) && b) u.0 ∙ and_false (k == m)
    ]
    | inr v ↦ ap (λ (b : Bool). b && (l == n)) v.0
  ]

past_bound : (l n : ℕ) → l < 64 → nat_lt n 64 ≡ false → (l == n) ≡ false
past_bound l n below e = elim (eqb_tells l n) [
  | inl w ↦ absurd (let past = ltb-false n 64 e in let same = w.1 in omega (arith, past, same, below))
  | inr w ↦ w.0
]

-- one pair more
module _ (rows : List Bool) (k l m n : ℕ) (t : Bool) (row : k < 64) (below : l < 64) (long : length rows ≡ 4096) where
  by_bound : (b : Bool) → nat_lt n 64 ≡ b → (b && is_in (cond t (set rows (k * 64 + l) true) rows) (m * 64 + n))
      ≡ ((b && is_in rows (m * 64 + n)) || (t && ((k == m) && (l == n))))
  by_bound true e = put_at rows (k * 64 + l) (m * 64 + n) t (omega (arith, row, below, long))
      ∙ ap (λ (b : Bool). is_in rows (m * 64 + n) || (t && b)) (same_place k l m n below (ltb-true n 64 e))
  by_bound false e = sym (ap (λ (b : Bool). t && ((k == m) && b)) (past_bound l n below e)
      ∙ (ap (λ (b : Bool). t && b) (and_false (k == m)) ∙ and_false t))

  pub pair_more : is_linked (cond t (set rows (k * 64 + l) true) rows) m n ≡ (is_linked rows m n || (t && ((k == m) && (l == n))))
  pair_more = by_bound (nat_lt n 64) refl

-- one link more
pub linked_more : (links : List ShapeLink) (rows : List Bool) (i : ℕ) (d : ShapeLink) → i < length links → length rows ≡ 4096
    → IsWithinNodes (get_or links i d) → HasRows (take i links) rows → (new : List Bool)
    → new ≡ cond (not (get_or links i d).delayed) (set rows ((get_or links i d).from.node * 64 + (get_or links i d).to.node) true) rows
    → HasRows (take (i + 1) links) new
linked_more links rows i d lt long within h new e = λ m n. let l = get_or links i d in
    ap (λ (xs : List Bool). is_linked xs m n) e ∙ (pair_more rows l.from.node l.to.node m n (not l.delayed) within.0 within.1 long
    ∙ (ap (λ (b : Bool). b || joins m n l) (h m n) ∙ sym (list_any_more (joins m n) links i d lt)))
