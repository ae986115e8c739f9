use Rattle.std.proofs.Common.{◌≡◌, ◌∙◌, ◌+◌, ◌<◌, ℕ, List, [], ◌∷◌, length, slice_index, ap, arith, length-append}
use Rattle.std.specs.Prelude.{slice_index_or}
use Rattle.std.proofs.lemmas.Grind.{get_or_default_zero}
use Rattle.pw_graph.specs.Pools.{pools_of}
use Rattle.pw_graph.specs.declared.pools.PoolShape.{PoolShape}
use Rattle.board_rule.specs.declared.board_shape.BoardShape.{BoardShape}
use Rattle.board_rule.specs.declared.rows.PoolRow.{PoolRow}
use Rattle.board_rule.specs.Layout.{layout_of}
use Rattle.board_rule.specs.start.Owners.{owners_of, seat_with, slot_in, AreSlots}
use Rattle.board_rule.specs.working.Rows.{HasPoolRows, HasIndexes}
use Rattle.board_rule.specs.buffers.EndViews.{no_pool}
use Rattle.board_rule.specs.buffers.Spans.{block_at}
use Rattle.board_rule.proofs.activation.RowLemmas.{row_grown}
use Rattle.board_rule.proofs.start.OwnerLemmas.{row_inside}
use Rattle.board_rule.proofs.slots.first_slots.Goals as goal

abbrev no_row : PoolRow
no_row = record { filler = 0; node = 0; blocks = 0; words = 0; readers = 0; first = 0; base = 0 }

-- the first block of a pool, which is there
module _ (bs : BoardShape) (rows : List PoolRow) (has : HasPoolRows bs.shape rows) (placed : HasIndexes bs.shape) (n : ℕ) (low : n < length rows) where
  first_is : (slice_index_or rows n no_row).first ≡ block_at (layout_of bs) n 0
  first_is = let count = has.count in let is = (has.each n no_row (omega arith)).first_is in omega arith

  first_inside : (blocks : List ℕ) → AreSlots (owners_of (layout_of bs)).blocks blocks → (slice_index_or rows n no_row).first < length blocks
  first_inside blocks are = let count = has.count in let pooled : n < length (pools_of bs.shape) = omega arith in
      let inside = row_inside (λ (x : PoolShape). x.blocks) (λ x. seat_with (layout_of bs) x.port.node) (pools_of bs.shape) n 0 no_pool pooled (placed.some n pooled).1 in
      let is = (has.each n no_row pooled).first_is in let long = are.count in omega arith

pub offset_bounds-blocks-pool : goal.offset_bounds-blocks-pool
offset_bounds-blocks-pool c = let r = c.requires in let t = c.type_inv.blocks in
    let inside = first_inside c.args.board_shape.now c.args.pools.now r.rows r.placed c.loop-pool.pool-index c.loop-pool-test.true c.args.blocks.now r.blocks in
    record { fits = omega arith }

pub bounds-blocks-pool : goal.bounds-blocks-pool
bounds-blocks-pool c = let r = c.requires in
    first_inside c.args.board_shape.now c.args.pools.now r.rows r.placed c.loop-pool.pool-index c.loop-pool-test.true c.args.blocks.now r.blocks

pub loop-pool-preserved : goal.loop-pool-preserved
loop-pool-preserved c = let r = c.requires in let i = c.loop-pool.invariant in let n : ℕ = c.loop-pool.pool-index in let bs : BoardShape = c.args.board_shape.now in
    let os : List ℕ = (owners_of (layout_of bs)).blocks in let low = c.loop-pool-test.true in
    let slots : List ℕ = c.loop-pool.slots.items in let long = r.blocks.count in
    let first : ℕ = (slice_index_or c.args.pools.now n no_row).first in
    let inside = first_inside bs c.args.pools.now r.rows r.placed n low c.args.blocks.now r.blocks in
    let next : slice_index c.args.blocks.now first ≡ slot_in os (block_at (layout_of bs) n 0) =
    r.blocks.each first (omega arith) ∙ ap (slot_in os) (first_is bs c.args.pools.now r.rows r.placed n low) in
    let items = c.in_ok-push.ensures.items in (
      ap (λ (l : List ℕ). length l) items ∙ length-append slots (slice_index c.args.blocks.now first ∷ []) ∙ ap (λ z. z + 1) i.0,
      λ q h. ap (λ (l : List ℕ). slice_index l q) items
          ∙ row_grown (λ z y. y ≡ slot_in os (block_at (layout_of bs) z 0)) slots (slice_index c.args.blocks.now first) n i.0
          (λ z d l. get_or_default_zero slots z d (omega (arith, i.0)) ∙ i.1 z l) next q 0 h,
    )
