-- A script has one partition: a part is given by its least node, and parts are in the order of
-- these.
use Rattle.std.proofs.Common.{◌≡◌, ℕ, zero, suc, ◌<◌, ◌≤◌, List, [], ◌∷◌, length, get_or, Some, sym, subst, arith}
use Rattle.std.specs.Prelude.{AllPairs, Contains, slice_get}
use Rattle.std.proofs.lemmas.Option.{same_Some, none-some}
use Rattle.std.proofs.lemmas.List.Elements.{All-contains}
use Rattle.std.proofs.lemmas.List.Kept.{AllPairs-from_increasing}
use Rattle.graph_lines.specs.declared.wire.Wire.{Wire}
use Rattle.graph_lines.specs.Activity.{AreJoined}
use Rattle.graph_plan.specs.Parts.{IsPartOf, IsBeforePart, AreParts}
use Rattle.graph_plan.proofs.lists.ElementLemmas.{contains_at}
use Rattle.graph_plan.proofs.lists.SameListLemmas.{same_sorted}
use Rattle.graph_plan.proofs.linked_parts.WalkLemmas.{joined_back}

-- the first of ascending numbers is the least
first_least : (ns : List ℕ) (m n : ℕ) → AllPairs (λ x y. x < y) ns → slice_get ns 0 ≡ Some m → Contains ns n → m ≤ n
first_least [] m n h e c = absurd (none-some m e)
first_least (x ∷ xs) m n h e c = go c.0 c.1 c.2 where
  go : (k : ℕ) → k < length (x ∷ xs) → get_or (x ∷ xs) k n ≡ n → m ≤ n
  go zero low is = let same : x ≡ m = same_Some x m e in omega (arith, same, is)
  go (suc k) low is = let same : x ≡ m = same_Some x m e in let less : x < get_or xs k n = h 0 (suc k) n (omega arith) low in omega (arith, same, is, less)

module _ (count : ℕ) (made : List Wire) where
  -- parts with one least node
  part_one : (p q : List ℕ) (h : IsPartOf count made p) (k : IsPartOf count made q) → h.least ≡ k.least → p ≡ q
  part_one p q h k same = same_sorted (λ (x y : ℕ). x < y) (λ x y a b. omega (arith, a, b)) p q (AllPairs-from_increasing p h.ascend)
      (AllPairs-from_increasing q k.ascend)
      (λ z c. (k.joined z).1 (subst (λ (n : ℕ). (z < count) × AreJoined made z n) same ((h.joined z).0 c)))
      (λ z c. (h.joined z).1 (subst (λ (n : ℕ). (z < count) × AreJoined made z n) (sym same) ((k.joined z).0 c)))

  -- each part of one partition is one of another
  has_part : (xs ys : List (List ℕ)) → AreParts count made xs → AreParts count made ys → (p : List ℕ) → Contains xs p → Contains ys p
  has_part xs ys h k p c =
      let part = All-contains (IsPartOf count made) xs p h.each c in
      let low = ((part.joined part.least).0 (contains_at p 0 part.least part.first)).0 in
      let w = k.all part.least low in
      let other = All-contains (IsPartOf count made) ys w.0 k.each w.1 in
      let back = joined_back made part.least other.least ((other.joined part.least).0 w.2).1 in
      let inside = (part.joined other.least).1 (((other.joined other.least).0 (contains_at w.0 0 other.least other.first)).0, back) in
      let up = first_least p part.least other.least (AllPairs-from_increasing p part.ascend) part.first inside in
      let down = first_least w.0 other.least part.least (AllPairs-from_increasing w.0 other.ascend) other.first w.2 in
      let same : part.least ≡ other.least = omega (arith, up, down) in
      subst (Contains ys) (sym (part_one p w.0 part other same)) w.1

  -- the order of parts
  abbrev IsEarlier : List ℕ → List ℕ → Type 0
  IsEarlier p q = IsBeforePart p q × IsPartOf count made p × IsPartOf count made q

  apart : (p q : List ℕ) → IsEarlier p q → IsEarlier q p → ⊥
  apart p q h k =
      let less = h.0 h.1.least h.2.least h.1.first h.2.first in
      let more = k.0 h.2.least h.1.least h.2.first h.1.first in
      omega (arith, less, more)

  earlier : (xs : List (List ℕ)) → AreParts count made xs → AllPairs IsEarlier xs
  earlier xs h i j d a b = (h.order i j d a b, h.each i d (omega (arith, a, b)), h.each j d b)

  pub parts_one : (xs ys : List (List ℕ)) → AreParts count made xs → AreParts count made ys → xs ≡ ys
  parts_one xs ys h k = same_sorted IsEarlier apart xs ys (earlier xs h) (earlier ys k) (has_part xs ys h k) (has_part ys xs k h)
