use Rattle.std.proofs.Common.{ℕ, take, sym, subst, arith}
use Rattle.std.specs.Prelude.{sum_by}
use Rattle.pw_graph.specs.Pools.{pools_of}
use Rattle.board_rule.specs.declared.rows.PoolRow.{PoolRow}
use Rattle.board_rule.specs.buffers.EndViews.{pool_in}
use Rattle.board_rule.specs.working.Rows.{base_of, IsPoolRow}
use Rattle.board_rule.proofs.board.Board.block_count.Goals as goal

pub returns-clause-some : goal.returns-clause-some
returns-clause-some c = let b = c.args.self.now in let q : ℕ = c.args.pool in let shape = b.board_shape.shape in
    let row : PoolRow = c.index.result.now in
    let is : IsPoolRow shape (pool_in shape q) (sum_by (λ x. x.blocks) (take q (pools_of shape))) (base_of shape q) row =
    subst (IsPoolRow shape (pool_in shape q) _ _) (sym c.index.ensures) (b.tied.pools.each q row c.requires) in
    let same = is.blocks in let some = (b.placed.some q c.requires).1 in omega arith
