-- The order of links: links that are not delayed have no loop.
-- Source: PipeWire's documentation, "Graph Scheduling": the graph of a cycle has no loops.
use Rattle.std.specs.Prelude.{◌≡◌, ℕ, ◌<◌, ◌==◌, ◌&&◌, Bool, true, false, not, List, All, slice_index_or}
use Rattle.std.specs.List.{list_any}
use Rattle.pw_graph.specs.declared.shape.ShapeLink.{ShapeLink}

-- NO LOOP: some order of the nodes rises along each link that is not delayed, so that no walk along
-- them leads back
pub record HasOrder (links : List ShapeLink) : Type 0 where
  pub rank : ℕ → ℕ
  pub rises : All (λ l. l.delayed ≡ false → rank l.from.node < rank l.to.node) links

-- while nodes are taken away: a link that is not delayed leads to the node from a remaining one
abbrev pub is_blocked : List ShapeLink → List Bool → ℕ → Bool
is_blocked links left node = list_any (λ l. not l.delayed &&
    ((l.to.node == node) && slice_index_or left l.from.node false)) links

-- each node below a number that is left is blocked, and each node that is left
abbrev pub AreBlocked : List ShapeLink → List Bool → ℕ → Type 0
AreBlocked links left m = (n : ℕ) → n < m → slice_index_or left n false ≡ true
    → is_blocked links left n ≡ true

abbrev pub IsStuck : List ShapeLink → List Bool → Type 0
IsStuck links left = AreBlocked links left 64

-- the node is left and not blocked
abbrev pub IsFree : List ShapeLink → List Bool → ℕ → Type 0
IsFree links left n = (n < 64) × (slice_index_or left n false ≡ true)
    × (is_blocked links left n ≡ false)

-- a link between node numbers below 64
abbrev pub IsWithinNodes : ShapeLink → Type 0
IsWithinNodes link = (link.from.node < 64) × (link.to.node < 64)
