-- The turn of a node on the pools that it fills, each with a row of its own.
-- Source: PipeWire's documentation, "SPA Buffers"; one pool an output port is this project's own.
use Rattle.std.specs.Prelude.{ℕ, ℤ, ◌==◌, List, All, if◌then◌else◌}
use Rattle.board_rule.specs.declared.view.View.{View}
use Rattle.board_rule.specs.Layout.{BoardLayout}
use Rattle.board_rule.specs.buffers.EndViews.{pool_at}
use Rattle.data_loop.specs.working.Writing.{Puts}

-- the row of the first output, or of the second; outputs are numbered from `first_output` on
abbrev pub row_for : BoardLayout → ℕ → List ℤ → List ℤ → ℕ → List ℤ
row_for p first_output left right q = if (pool_at p q).port.port == first_output then left
    else right

abbrev pub AllPut : BoardLayout → View → ℕ → List ℤ → List ℤ → List ℕ → Type 0
AllPut p v first_output left right pools = All
    (λ q. Puts p v (row_for p first_output left right q) q) pools
