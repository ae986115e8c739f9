-- Sets of nodes by their bits: bit n is node n.
-- Source: this project's own.
use Rattle.std.specs.Prelude.{◌≡◌, ◌≢◌, ◌<◌, ◌↔◌, ℕ, Option, Some, None}
use Rattle.std.specs.Int.{bit_at}
use Rattle.graph_run.specs.declared.seating.Seating.{Seating}
use Rattle.graph_run.specs.Seating.{holder_of}

-- the set has just the nodes that have a cell
abbrev pub AreCelled : Seating → ℕ → Type 0
AreCelled seating celled = (n : ℕ) → n < 64
    → (bit_at celled n ≡ 1) ↔ (holder_of seating n < seating.loops)

-- THE NODE THAT IS KEPT is in the set, and has a cell; the rest is the set without it
pub record IsTakenOut (celled node set rest : ℕ) : Type 0 where
  pub low : node < 64
  pub there : bit_at set node ≡ 1
  pub has_cell : bit_at celled node ≡ 1
  pub gone : bit_at rest node ≡ 0
  pub others : (n : ℕ) → n < 64 → n ≢ node → bit_at rest n ≡ bit_at set n

-- where none is kept, no node of the set has a cell
abbrev pub IsKept : ℕ → Option ℕ → ℕ → ℕ → Type 0
IsKept celled (Some node) set rest = IsTakenOut celled node set rest
IsKept celled None set rest = (rest ≡ set)
    × ((n : ℕ) → n < 64 → bit_at celled n ≡ 1 → bit_at set n ≡ 0)
