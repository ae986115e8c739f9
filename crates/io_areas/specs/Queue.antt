-- The free numbers of a pool, first in, first out. Source: PipeWire's documentation, "SPA
-- Buffers".
use Rattle.std.specs.Prelude.{ℕ, zero, suc, List, [], ◌∷◌, ◌++◌}

-- the numbers that are free, the longest free first, and how many blocks there are
pub record Queue : Type 0 where
  pub free : List ℕ
  pub blocks : ℕ

-- the numbers from 0 on
abbrev pub numbers_below : ℕ → List ℕ
numbers_below zero = []
numbers_below (suc n) = numbers_below n ++ n ∷ []
