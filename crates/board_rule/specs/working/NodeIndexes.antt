-- The table of a shape's nodes by number.
-- Source: this project's own.
use Rattle.std.specs.Prelude.{◌≡◌, ℕ, ◌<◌, List, slice_index}
use Rattle.pw_graph.specs.declared.shape.Shape.{Shape}
use Rattle.board_rule.specs.Layout.{index_in}

-- of each number below 64 the index of its node, or the number of nodes where there is none
abbrev pub AreIndexes : Shape → List ℕ → Type 0
AreIndexes shape indexes = (n : ℕ) → n < 64 → slice_index indexes n ≡ index_in shape n
