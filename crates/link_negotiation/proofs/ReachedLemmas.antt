-- Nodes that are reached, one after the other.
use Rattle.std.proofs.Common.{◌≡◌, ◌⊎◌, inl, inr, ℕ, zero, suc, ◌+◌, ◌<◌, ◌≤◌, List, length, get_or, replicate, Bool, true, false}
use Rattle.std.proofs.Common.{not, cond, refl, sym, ap, ◌∙◌, arith}
use Rattle.std.specs.List.{count_by, sum_by}
use Rattle.std.proofs.Math.ListN.{set, length-set}
use Rattle.std.proofs.lemmas.Bool.{cases_eq}
use Rattle.std.proofs.lemmas.List.{get_or-set_same, get_or-set_other, set-get_or, get_or_past, length-replicate}
use Rattle.std.proofs.lemmas.List.Sums.{sum_by-set}
use Rattle.link_negotiation.specs.declared.reached.Reached.{Reached}
use Rattle.link_negotiation.specs.working.Searching.{is_reached, IsQueue, IsLonger}

-- what is reached stays, and one node is added
pub still : (here : List Bool) (n m : ℕ) → n < length here → is_reached here m ≡ true → is_reached (set here n true) m ≡ true
still here n m l r = elim (cases_eq m n) [
  | inl same ↦ ap (is_reached (set here n true)) same ∙ get_or-set_same here n true false l
  | inr other ↦ get_or-set_other here n m true false other ∙ r
]

pub old_or_new : (here : List Bool) (n m : ℕ) → is_reached (set here n true) m ≡ true → (m ≡ n) ⊎ (is_reached here m ≡ true)
old_or_new here n m e = elim (cases_eq m n) [
  | inl same ↦ inl same
  | inr other ↦ inr (sym (get_or-set_other here n m true false other) ∙ e)
]

-- one node fewer is left
fewer : (here : List Bool) (n : ℕ) → n < length here → is_reached here n ≡ false → count_by not (set here n true) + 1 ≡ count_by not here
fewer here n l e =
    let f : Bool → ℕ = λ h. cond (not h) 1 0 in
    let sum : sum_by f (set here n true) + f (get_or here n false) ≡ sum_by f here + 0 = sum_by-set f here n true false l in
    let one : f (get_or here n false) ≡ 1 = ap f e in
    let less : sum_by f (set here n true) + 1 ≡ sum_by f here = omega (arith, sum, one) in
    less

-- so there is room for it
room : (r : Reached) (n : ℕ) → n < length r.here → is_reached r.here n ≡ false → IsQueue r → r.count < length r.order
room r n l e q = omega (arith, fewer r.here n l e, q.once, q.room)

pub queue_more : (r : Reached) (n : ℕ) → n < 64 → is_reached r.here n ≡ false → IsQueue r
    → IsQueue (record { here = set r.here n true; order = set r.order r.count n; count = r.count + 1 })
queue_more r n low e q =
    let l : n < length r.here = omega (arith, low, q.nodes) in
    let free = room r n l e q in record {
      nodes = length-set r.here n true ∙ q.nodes;
      room = length-set r.order r.count n ∙ q.room;
      here = λ k below. elim (cases_eq k r.count) [
        | inl same ↦ ap (is_reached (set r.here n true))
            (ap (λ i. get_or (set r.order r.count n) i 0) same ∙ get_or-set_same r.order r.count n 0 free)
            ∙ get_or-set_same r.here n true false l
        | inr other ↦ ap (is_reached (set r.here n true)) (get_or-set_other r.order r.count k n 0 other)
            ∙ still r.here n (get_or r.order k 0) l (q.here k (omega (arith, below, other)))
      ];
      places = λ m t. elim (old_or_new r.here n m t) [
        | inl same ↦ (r.count, omega arith, get_or-set_same r.order r.count n 0 free ∙ sym same)
        | inr there ↦ let w = q.places m there in (
          w.0,
          omega (arith, w.1),
          get_or-set_other r.order r.count w.0 n 0 (λ same. omega (arith, same, w.1)) ∙ w.2,
        )
      ];
      once = omega (arith, fewer r.here n l e, q.once);
    }

pub longer_more : (r : Reached) (n : ℕ) → n < 64 → IsQueue r
    → IsLonger r (record { here = set r.here n true; order = set r.order r.count n; count = r.count + 1 })
longer_more r n low q = record {
  count = omega arith;
  order = λ k below. get_or-set_other r.order r.count k n 0 (λ same. omega (arith, same, below));
  here = λ m t. still r.here n m (omega (arith, low, q.nodes)) t;
}

-- a node that is reached already
pub longer_same : (r : Reached) → IsLonger r r
longer_same r = record { count = omega arith; order = λ k below. refl; here = λ m t. t }

pub set_again : (here : List Bool) (n : ℕ) → is_reached here n ≡ true → here ≡ set here n true
set_again here n e = sym (set-get_or here n false) ∙ ap (λ b. set here n b) e

-- no node is reached at first
pub none_reached : (n k : ℕ) → is_reached (replicate n false) k ≡ false
none_reached zero k = refl
none_reached (suc n) zero = refl
none_reached (suc n) (suc k) = none_reached n k

all_left : count_by not (replicate 64 false) ≡ 64
all_left = refl

pub queue_none : IsQueue (record { here = replicate 64 false; order = replicate 64 0; count = 0 })
queue_none = record {
  nodes = length-replicate 64 false;
  room = length-replicate {A = ℕ} 64 0;
  here = λ k below. absurd (omega (arith, below));
  places = λ n t. absurd (differ (sym (none_reached 64 n) ∙ t));
  once = omega (arith, all_left);
} where
  differ : false ≡ true → ⊥
  differ e = cc

-- what is reached has a number below 64
pub reached_below : (r : Reached) (n : ℕ) → IsQueue r → is_reached r.here n ≡ true → n < 64
reached_below r n q t = elim (side n 64) [
  | inl low ↦ low
  | inr high ↦ absurd (differ (sym (get_or_past r.here n false (omega (arith, high, q.nodes))) ∙ t))
] where
  side : (a b : ℕ) → (a < b) ⊎ (b ≤ a)
  side a b = grind arith

  differ : false ≡ true → ⊥
  differ e = cc
