-- The search for a walk: the links by the node that they leave, and the nodes that are reached.
-- Source: this project's own.
use Rattle.std.specs.Prelude.{◌≡◌, ◌⊎◌, ℕ, ◌+◌, ◌-◌, ◌<◌, ◌≤◌, ◌==◌, ◌&&◌, Bool, true, false, not}
use Rattle.pw_lists.specs.Limits.{links_limit}
use Rattle.std.specs.Prelude.{List, length, slice_index, slice_index_or, count_by}
use Rattle.std.specs.List.{All, Contains}
use Rattle.link_negotiation.specs.declared.link.Link.{Link}
use Rattle.link_negotiation.specs.declared.outgoing.Outgoing.{Outgoing}
use Rattle.link_negotiation.specs.declared.reached.Reached.{Reached}
use Rattle.link_negotiation.specs.Links.{LinkState, is_synchronous, synchronous_links}

-- node numbers are below 64, and there are 256 links at most
pub record IsBounded (s : LinkState) : Type 0 where
  pub links : All (λ l. (l.from.node < 64) × (l.to.node < 64)) s.made
  pub marks : length s.marks ≡ 64
  pub few : length s.made ≤ links_limit

-- a link is synchronous and leaves this node
abbrev pub leaves : LinkState → ℕ → Link → Bool
leaves s n l = is_synchronous s l && (l.from.node == n)

-- LAST: of the first `count` links the last that leaves a node is the i-th, counted from 1; i is 0
-- where no link does
pub record IsLast (s : LinkState) (n count i : ℕ) : Type 0 where
  pub within : i ≤ count
  pub there : (d : Link) → 0 < i → leaves s n (slice_index_or s.made (i - 1) d) ≡ true
  pub none : (k : ℕ) (d : Link) → i ≤ k → k < count
      → leaves s n (slice_index_or s.made k d) ≡ false

-- OUTGOING: of the first `count` links the last that leaves each node, and the one before each from
-- the same node
pub record IsOutgoing (s : LinkState) (count : ℕ) (o : Outgoing) : Type 0 where
  pub nodes : length o.last ≡ 64
  pub links : length o.earlier ≡ links_limit
  pub last : (n : ℕ) → n < 64 → IsLast s n count (slice_index o.last n)
  pub earlier : (k n : ℕ) (d : Link) → k < count
      → leaves s n (slice_index_or s.made k d) ≡ true
      → IsLast s n k (slice_index o.earlier k)

abbrev pub is_reached : List Bool → ℕ → Bool
is_reached here n = slice_index_or here n false

-- QUEUE: the nodes in the order are those that are reached, each once
pub record IsQueue (r : Reached) : Type 0 where
  pub nodes : length r.here ≡ 64
  pub room : length r.order ≡ 64
  pub here : (k : ℕ) → k < r.count → is_reached r.here (slice_index r.order k) ≡ true
  pub places : (n : ℕ) → is_reached r.here n ≡ true
      → (k : ℕ) × (k < r.count) × (slice_index r.order k ≡ n)
  pub once : r.count + count_by not r.here ≡ 64

-- what is reached stays, in its order
pub record IsLonger (before after : Reached) : Type 0 where
  pub count : before.count ≤ after.count
  pub order : (k : ℕ) → k < before.count
      → slice_index after.order k ≡ slice_index before.order k
  pub here : (n : ℕ) → is_reached before.here n ≡ true → is_reached after.here n ≡ true

-- a synchronous link leads from a node to another
pub record IsLed (s : LinkState) (n m : ℕ) : Type 0 where
  pub link : Link
  pub there : Contains (synchronous_links s) link
  pub from : link.from.node ≡ n
  pub to : link.to.node ≡ m

-- all that the synchronous links of a node lead to is reached
abbrev pub IsExpanded : LinkState → ℕ → List Bool → Type 0
IsExpanded s n here = (m : ℕ) → IsLed s n m → is_reached here m ≡ true

-- EXPANSION of a node: just the nodes that its synchronous links lead to are reached too
pub record Expands (s : LinkState) (n : ℕ) (before after : Reached) : Type 0 where
  pub queue : IsQueue after
  pub longer : IsLonger before after
  pub led : (m : ℕ) → is_reached after.here m ≡ true
      → (is_reached before.here m ≡ true) ⊎ IsLed s n m
  pub all : IsExpanded s n after.here
