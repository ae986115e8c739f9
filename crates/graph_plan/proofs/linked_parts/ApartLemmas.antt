-- No node is in two parts.
use Rattle.std.proofs.Common.{◌≡◌, ℕ, zero, suc, ◌<◌, List, [], ◌∷◌, length, get_or, Some, arith}
use Rattle.std.specs.Prelude.{AllPairs, Contains, slice_get}
use Rattle.std.proofs.lemmas.Option.{same_Some, none-some}
use Rattle.std.proofs.lemmas.List.Kept.{AllPairs-from_increasing}
use Rattle.graph_lines.specs.declared.wire.Wire.{Wire}
use Rattle.graph_plan.specs.Parts.{AreParts}
use Rattle.graph_plan.proofs.lists.ElementLemmas.{contains_at}
use Rattle.graph_plan.proofs.linked_parts.WalkLemmas.{joined_on, joined_back}

-- no node of a part is below its least
none_below : (ns : List ℕ) (m n : ℕ) → AllPairs (λ x y. x < y) ns → slice_get ns 0 ≡ Some m → Contains ns n → n < m → ⊥
none_below [] m n h e c low = absurd (none-some m e)
none_below (x ∷ xs) m n h e c low = go c.0 c.1 c.2 where
  same : x ≡ m
  same = same_Some x m e

  go : (k : ℕ) → k < length (x ∷ xs) → get_or (x ∷ xs) k n ≡ n → ⊥
  go zero l is = omega (arith, same, is, low)
  go (suc k) l is = let less : x < get_or xs k n = h 0 (suc k) n (omega arith) l in omega (arith, same, is, less, low)

-- TWO PARTS have no node in common
pub parts_apart : (count : ℕ) (made : List Wire) (parts : List (List ℕ)) → AreParts count made parts
    → (i j : ℕ) (d : List ℕ) → i < j → j < length parts → (n : ℕ) → Contains (get_or parts i d) n → Contains (get_or parts j d) n → ⊥
parts_apart count made parts h i j d less low n a b =
    let p = h.each i d (omega (arith, less, low)) in
    let q = h.each j d low in
    let order = h.order i j d less low p.least q.least p.first q.first in
    let first = (p.joined p.least).0 (contains_at (get_or parts i d) 0 p.least p.first) in
    let back = joined_on made p.least n q.least (joined_back made n p.least ((p.joined n).0 a).1) ((q.joined n).0 b).1 in
    none_below (get_or parts j d) q.least p.least (AllPairs-from_increasing (get_or parts j d) q.ascend) q.first
    ((q.joined p.least).1 (first.0, back)) order
