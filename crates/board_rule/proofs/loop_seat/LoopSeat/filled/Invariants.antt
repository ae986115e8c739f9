use Rattle.std.proofs.Common.{◌<◌, ℕ}
use Rattle.board_rule.specs.Layout.{layout_of}
use Rattle.board_rule.specs.buffers.BufferReads.{IsFilled}
use Rattle.board_rule.proofs.loop_seat.LoopSeat.filled.Given as goal

abbrev pub invariant-loop-id : goal.invariant-loop-id
invariant-loop-id l = (a : ℕ) → a < l.id → IsFilled (layout_of l.board.board_shape) l.self.knows l.pool a → ⊥
