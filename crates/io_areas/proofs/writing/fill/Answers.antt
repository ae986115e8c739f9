use Rattle.std.proofs.Common.{ℕ, sym, ap, ◌∙◌, subst, arith}
use Rattle.board_rule.specs.declared.view.View.{View}
use Rattle.board_rule.specs.Layout.{layout_of}
use Rattle.board_rule.specs.buffers.BlockSteps.{StoresSample, sample_stored}
use Rattle.board_rule.specs.buffers.EndViews.{pool_at}
use Rattle.io_areas.proofs.FillLemmas.{filling, filling_some, can_store, stored_more}
use Rattle.io_areas.proofs.writing.fill.Goals as goal

pub store_sample_at-requires-clause-phase : goal.store_sample_at-requires-clause-phase
store_sample_at-requires-clause-phase c = let p = layout_of c.args.board.now.board_shape in let v : View = c.args.seat.now.knows in
    let q = c.args.pool in let id = c.args.id in let k = c.loop-place.place in
    let w = c.block_words-place-end.ensures.is in let t = c.loop-place-test.true in
    subst (λ (x : View × ℕ). StoresSample p x.0 q id k x.1) (λ i. (sym c.loop-place.invariant.1 i, sym c.pack-word.ensures i))
    (can_store p v q id c.args.samples.now c.requires.phase k (omega arith))

pub loop-place-preserved : goal.loop-place-preserved
loop-place-preserved c = let p = layout_of c.args.board.now.board_shape in let v : View = c.args.seat.now.knows in let q = c.args.pool in
    let id = c.args.id in let k = c.loop-place.place in let e = c.store_sample_at.ensures in (
      e.table ∙ c.loop-place.invariant.0,
      e.knows ∙ ap (λ (x : View). sample_stored p x q id k) c.loop-place.invariant.1
          ∙ stored_more p v q id c.args.samples.now c.requires.phase k,
    )

pub returns-clause-knows : goal.returns-clause-knows
returns-clause-knows c = let p = layout_of c.args.board.now.board_shape in let v : View = c.args.seat.now.knows in
    let w = c.block_words-place-end.ensures.is in let some = c.block_words-place-end.ensures.some in
    c.loop-place.invariant.1 ∙ ap (filling p v c.args.pool c.args.id) (omega arith)
    ∙ filling_some p v c.args.pool c.args.id (pool_at p c.args.pool).words (omega arith)
