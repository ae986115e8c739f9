use Rattle.std.proofs.Common.{ℕ, subst}
use Rattle.board_rule.specs.declared.view.View.{View}
use Rattle.board_rule.specs.Layout.{layout_of}
use Rattle.board_rule.specs.buffers.EndViews.{pool_of}
use Rattle.board_rule.specs.buffers.BufferReads.{IsFirstFilled}
use Rattle.io_areas.specs.Writing.{IsNew}
use Rattle.io_areas.proofs.AtPoolLemmas.{one_first}
use Rattle.io_areas.proofs.writing.publish.Goals as goal

pub returns-clause-published : goal.returns-clause-published
returns-clause-published c = let p = layout_of c.args.board.now.board_shape in let v : View = c.args.seat.now.knows in let l = c.args.link in
    let n = c.requires.phase.4 in
    let f : IsFirstFilled p v (pool_of p l) c.filled-id.result =
    subst (λ (q : ℕ). IsFirstFilled p v q c.filled-id.result) c.link_pool-pool.ensures.is c.filled-id.ensures in (
      c.filled-id.result,
      subst (λ (b : ℕ). IsNew p v l b) (one_first p v (pool_of p l) n.0 c.filled-id.result n.1.0 f) n.1,
      c.store_have_data.ensures.knows,
    )
