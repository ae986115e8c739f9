-- The search for the nodes that are joined: what a look at one link and a pass over all of them do.
-- Source: this project's own.
use Rattle.std.specs.Prelude.{◌≡◌, ◌⊎◌, ℕ, ◌<◌, ◌≤◌, Bool, true, false, not, List, length, slice_index_or, slice_set}
use Rattle.std.specs.Prelude.{◌+◌, ◌*◌, ◌&&◌, nat_lt, Option, Some, None, count_by, All, filter}
use Rattle.std.specs.List.{list_any, range_with_len}
use Rattle.pw_graph.specs.declared.kind.Kind.{Kind}
use Rattle.pw_graph.specs.declared.shape.ShapeLink.{ShapeLink}
use Rattle.pw_graph.specs.Dependencies.{joins}
use Rattle.graph_lines.specs.declared.wire.Wire.{Wire}
use Rattle.graph_lines.specs.declared.standing.Standing.{Standing}
use Rattle.graph_lines.specs.declared.shaping.driving.Candidate.{Candidate}
use Rattle.graph_lines.specs.Activity.{Joins, AreJoined, candidacy}

-- whether a node is in
abbrev pub is_in : List Bool → ℕ → Bool
is_in here n = slice_index_or here n false

-- node numbers are below 64
abbrev pub IsWithin : Wire → Type 0
IsWithin w = (w.from.node < 64) × (w.to.node < 64)

-- both nodes of a link are in, or neither is
abbrev pub IsClosed : List Bool → Wire → Type 0
IsClosed here w = is_in here w.from.node ≡ is_in here w.to.node

-- of a link one node was in, and the other was added
pub record TakesIn (w : Wire) (old new : List Bool) : Type 0 where
  pub in_node : ℕ
  pub out_node : ℕ
  pub ends : Joins w out_node in_node
  pub was_in : is_in old in_node ≡ true
  pub was_out : is_in old out_node ≡ false
  pub below : out_node < 64
  pub grown : new ≡ slice_set old out_node true

-- each node that is in is joined to this one
abbrev pub AreIn : List Wire → ℕ → List Bool → Type 0
AreIn live d here = (n : ℕ) → is_in here n ≡ true → AreJoined live n d

-- the nodes that were added are joined to those that were in
pub record Spreads (live : List Wire) (old new : List Bool) : Type 0 where
  pub long : length new ≡ 64
  pub stays : (n : ℕ) → is_in old n ≡ true → is_in new n ≡ true
  pub joined : (d : ℕ) → AreIn live d old → AreIn live d new

-- a node more: fewer are out; no node: every link is closed
pub record HasMore (live : List Wire) (old new : List Bool) (more : Bool) : Type 0 where
  pub fewer : more ≡ true → count_by not new < count_by not old
  pub same : more ≡ false → new ≡ old
  pub closed : more ≡ false → All (IsClosed new) live

-- BEST of the first nodes: the first of the candidates among them, if there is one
abbrev pub IsBest : List Kind → List Standing → ℕ → Option Candidate → Type 0
IsBest kinds nodes count None = (m : ℕ) → m < count → candidacy kinds nodes m ≡ None
IsBest kinds nodes count (Some b) = (candidacy kinds nodes b.node ≡ Some b.priority)
    × (b.node < count)
    × ((m q : ℕ) → m < count → candidacy kinds nodes m ≡ Some q
    → (q < b.priority) ⊎ ((q ≡ b.priority) × (b.node ≤ m)))

-- the numbers below a count that are in, ascending
abbrev pub numbers_in : List Bool → ℕ → List ℕ
numbers_in here count = filter (is_in here) (range_with_len 0 count)

-- whether n is in the row of m, where each row has 64 numbers
abbrev pub is_linked : List Bool → ℕ → ℕ → Bool
is_linked rows m n = nat_lt n 64 && is_in rows (m * 64 + n)

-- the row of each number has just those to which a link goes from it that is not delayed
abbrev pub HasRows : List ShapeLink → List Bool → Type 0
HasRows links rows = (m n : ℕ) → is_linked rows m n ≡ list_any (joins m n) links
