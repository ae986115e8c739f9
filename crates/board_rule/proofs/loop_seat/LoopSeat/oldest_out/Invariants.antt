use Rattle.board_rule.specs.Layout.{layout_of}
use Rattle.board_rule.proofs.buffers.BufferReadsLemmas.{IsOldest}
use Rattle.board_rule.proofs.loop_seat.LoopSeat.oldest_out.Given as goal

abbrev pub invariant-loop-id : goal.invariant-loop-id
invariant-loop-id l = IsOldest (layout_of l.board.board_shape) l.self.knows l.pool l.id l.oldest
