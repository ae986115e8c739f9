-- Orders that rise along links, and which nodes links lead to: what keeps links without a loop.
-- Source: this project's own.
use Rattle.std.specs.Prelude.{ℕ, ◌<◌, ◌==◌, ◌&&◌, ◌||◌, Bool, List, [], ◌∷◌, Contains}
use Rattle.link_negotiation.specs.declared.link.Link.{Link}
use Rattle.link_negotiation.specs.Links.{LinkState, synchronous_links}

-- some rank of the nodes rises along each of these links
pub record HasRank (links : List Link) : Type 0 where
  pub rank : ℕ → ℕ
  pub rises : (l : Link) → Contains links l → rank l.from.node < rank l.to.node

-- ORDER: so it is with the synchronous links of a graph
abbrev pub IsOrdered : LinkState → Type 0
IsOrdered s = HasRank (synchronous_links s)

-- whether links lead from a node to another, by going through the links
abbrev pub leads : List Link → ℕ → ℕ → Bool
leads [] a b = a == b
leads (l ∷ ls) a b = leads ls a b || (leads ls a l.from.node && leads ls l.to.node b)
