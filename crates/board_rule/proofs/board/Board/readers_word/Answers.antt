use Rattle.std.proofs.Common.{ℕ, take, sym, subst, arith}
use Rattle.std.specs.Prelude.{sum_by}
use Rattle.pw_graph.specs.Pools.{pools_of}
use Rattle.board_rule.specs.declared.rows.PoolRow.{PoolRow}
use Rattle.board_rule.specs.buffers.EndViews.{pool_in}
use Rattle.board_rule.specs.working.Rows.{base_of, IsPoolRow}
use Rattle.board_rule.proofs.WordLemmas.{row_word, row_fits}
use Rattle.board_rule.proofs.board.Board.readers_word.Goals as goal

pub overflow_add-result : goal.overflow_add-result
overflow_add-result c =
    let b = c.args.self.now in let q : ℕ = c.args.pool in let shape = b.board_shape.shape in let row : PoolRow = c.index-row.result.now in
    let is : IsPoolRow shape (pool_in shape q) (sum_by (λ x. x.blocks) (take q (pools_of shape))) (base_of shape q) row =
    subst (IsPoolRow shape (pool_in shape q) _ _) (sym c.index-row.ensures) (b.tied.pools.each q row c.requires.inside) in
    record { fits = (row_fits shape q c.args.id row c.requires.inside c.requires.block b.placed b.fits is).0 }

pub overflow_mul-result : goal.overflow_mul-result
overflow_mul-result c =
    let b = c.args.self.now in let q : ℕ = c.args.pool in let shape = b.board_shape.shape in let row : PoolRow = c.index-row.result.now in
    let is : IsPoolRow shape (pool_in shape q) (sum_by (λ x. x.blocks) (take q (pools_of shape))) (base_of shape q) row =
    subst (IsPoolRow shape (pool_in shape q) _ _) (sym c.index-row.ensures) (b.tied.pools.each q row c.requires.inside) in
    record { fits = (row_fits shape q c.args.id row c.requires.inside c.requires.block b.placed b.fits is).1 }

pub overflow_add-result-2 : goal.overflow_add-result-2
overflow_add-result-2 c =
    let b = c.args.self.now in let q : ℕ = c.args.pool in let shape = b.board_shape.shape in let row : PoolRow = c.index-row.result.now in
    let is : IsPoolRow shape (pool_in shape q) (sum_by (λ x. x.blocks) (take q (pools_of shape))) (base_of shape q) row =
    subst (IsPoolRow shape (pool_in shape q) _ _) (sym c.index-row.ensures) (b.tied.pools.each q row c.requires.inside) in
    record { fits = (row_fits shape q c.args.id row c.requires.inside c.requires.block b.placed b.fits is).2 }

pub returns-clause-is : goal.returns-clause-is
returns-clause-is c =
    let b = c.args.self.now in let q : ℕ = c.args.pool in let shape = b.board_shape.shape in let row : PoolRow = c.index-row.result.now in
    let is : IsPoolRow shape (pool_in shape q) (sum_by (λ x. x.blocks) (take q (pools_of shape))) (base_of shape q) row =
    subst (IsPoolRow shape (pool_in shape q) _ _) (sym c.index-row.ensures) (b.tied.pools.each q row c.requires.inside) in
    row_word shape q c.args.id row c.requires.inside c.requires.block b.placed b.fits is

pub returns-clause-there : goal.returns-clause-there
returns-clause-there c =
    let b = c.args.self.now in let q : ℕ = c.args.pool in let shape = b.board_shape.shape in let row : PoolRow = c.index-row.result.now in
    let is : IsPoolRow shape (pool_in shape q) (sum_by (λ x. x.blocks) (take q (pools_of shape))) (base_of shape q) row =
    subst (IsPoolRow shape (pool_in shape q) _ _) (sym c.index-row.ensures) (b.tied.pools.each q row c.requires.inside) in
    let at = row_word shape q c.args.id row c.requires.inside c.requires.block b.placed b.fits is in
    let h = b.placed.blocks q c.args.id c.requires.inside c.requires.block in let w = b.words in omega arith
