use Rattle.std.proofs.Common.{◌≡◌, ◌<◌, ℕ, length, slice_index}
use Rattle.board_rule.specs.Layout.{layout_of}
use Rattle.board_rule.specs.start.Owners.{owners_of, slot_in}
use Rattle.board_rule.specs.buffers.Spans.{block_at}
use Rattle.board_rule.proofs.slots.first_slots.Given as goal

abbrev pub invariant-loop-pool : goal.invariant-loop-pool
invariant-loop-pool l = (length l.slots.items ≡ l.pool-index) × ((q : ℕ) → q < l.pool-index → slice_index l.slots.items q
    ≡ slot_in (owners_of (layout_of l.board_shape)).blocks (block_at (layout_of l.board_shape) q 0))
