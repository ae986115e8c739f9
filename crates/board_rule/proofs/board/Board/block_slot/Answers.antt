use Rattle.std.proofs.Common.{◌≡◌, ◌∙◌, ◌+◌, ◌^◌, ◌<◌, ℕ, arith, length}
use Rattle.std.specs.Prelude.{slice_index_or}
use Rattle.std.proofs.lemmas.List.{get_or_read}
use Rattle.pw_graph.specs.Pools.{pools_of}
use Rattle.board_rule.specs.Layout.{layout_of}
use Rattle.board_rule.specs.start.Owners.{owners_of, slot_in}
use Rattle.board_rule.specs.buffers.Spans.{block_at}
use Rattle.board_rule.specs.declared.rows.PoolRow.{PoolRow}
use Rattle.board_rule.proofs.WordLemmas.{row_fits}
use Rattle.board_rule.proofs.start.SlotLemmas.{slot_low}
use Rattle.board_rule.proofs.board.Board.block_slot.Goals as goal

no_row : PoolRow
no_row = record { filler = 0; node = 0; blocks = 0; words = 0; readers = 0; first = 0; base = 0 }

pub overflow_add-result : goal.overflow_add-result
overflow_add-result c = let b = c.args.self.now in let p = layout_of b.board_shape in let shape = b.board_shape.shape in let q : ℕ = c.args.pool in
    let low : q < length (pools_of shape) = c.requires.inside in
    let is = b.tied.pools.each q no_row low in let first = is.first_is in
    let row : PoolRow = slice_index_or b.rows.pools.items q no_row in
    let fits = (row_fits shape q c.args.id row low c.requires.block b.placed b.fits is).3 in
    let count = b.slotted.pools in
    let at : c.index.result.now ≡ slot_in (owners_of p).blocks (block_at p q 0) =
    get_or_read b.slot_rows.pools.items q c.index.result.now (omega arith) c.index.ensures 0 ∙ b.slotted.of_pools q low in
    let most = slot_low (owners_of p).blocks (block_at p q 0) in record { fits = (let z : c.index.result.now + c.args.id < 2 ^ 64 = omega arith in z) }
