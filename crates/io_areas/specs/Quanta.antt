-- How many samples a quantum of a pool has.
-- Source: PipeWire's documentation, "Graph Scheduling" (quantum); pools are this project's own.
use Rattle.std.specs.Prelude.{ℕ, ◌*◌}
use Rattle.board_rule.specs.Layout.{BoardLayout}
use Rattle.board_rule.specs.buffers.EndViews.{pool_at}

abbrev pub quantum_of : BoardLayout → ℕ → ℕ
quantum_of p q = p.shape.quantum * (pool_at p q).channels
