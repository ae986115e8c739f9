use Rattle.std.proofs.Common.{ℕ, sym, subst, arith}
use Rattle.pw_graph.specs.Layout.{io_place}
use Rattle.board_rule.specs.declared.rows.LinkRow.{LinkRow}
use Rattle.board_rule.specs.buffers.EndViews.{link_in, pool_number}
use Rattle.board_rule.specs.working.Rows.{IsLinkRow}
use Rattle.board_rule.proofs.WordLemmas.{link_word, link_fits}
use Rattle.board_rule.proofs.board.Board.link_readers_word.Goals as goal

pub overflow_mul-result : goal.overflow_mul-result
overflow_mul-result c =
    let b = c.args.self.now in let l : ℕ = c.args.link in let shape = b.board_shape.shape in let row : LinkRow = c.index-row.result.now in
    let q : ℕ = pool_number shape l in let inside = b.placed.pools l c.requires.inside in
    let is : IsLinkRow shape (link_in shape l) (io_place shape l 0) row =
    subst (IsLinkRow shape (link_in shape l) (io_place shape l 0)) (sym c.index-row.ensures)
    (b.tied.links.each l row c.requires.inside) in
    record {
      fits = (link_fits shape l c.args.id (link_in shape l)
          (io_place shape l 0) row q inside c.requires.block b.placed b.fits is is.pool).0;
    }

pub overflow_add-result : goal.overflow_add-result
overflow_add-result c =
    let b = c.args.self.now in let l : ℕ = c.args.link in let shape = b.board_shape.shape in let row : LinkRow = c.index-row.result.now in
    let q : ℕ = pool_number shape l in let inside = b.placed.pools l c.requires.inside in
    let is : IsLinkRow shape (link_in shape l) (io_place shape l 0) row =
    subst (IsLinkRow shape (link_in shape l) (io_place shape l 0)) (sym c.index-row.ensures)
    (b.tied.links.each l row c.requires.inside) in
    record {
      fits = (link_fits shape l c.args.id (link_in shape l)
          (io_place shape l 0) row q inside c.requires.block b.placed b.fits is is.pool).1;
    }

pub returns-clause-is : goal.returns-clause-is
returns-clause-is c =
    let b = c.args.self.now in let l : ℕ = c.args.link in let shape = b.board_shape.shape in let row : LinkRow = c.index-row.result.now in
    let q : ℕ = pool_number shape l in let inside = b.placed.pools l c.requires.inside in
    let is : IsLinkRow shape (link_in shape l) (io_place shape l 0) row =
    subst (IsLinkRow shape (link_in shape l) (io_place shape l 0)) (sym c.index-row.ensures)
    (b.tied.links.each l row c.requires.inside) in
    link_word shape l c.args.id (link_in shape l) (io_place shape l 0) row q inside c.requires.block b.placed b.fits is is.pool

pub returns-clause-there : goal.returns-clause-there
returns-clause-there c =
    let b = c.args.self.now in let l : ℕ = c.args.link in let shape = b.board_shape.shape in let row : LinkRow = c.index-row.result.now in
    let q : ℕ = pool_number shape l in let inside = b.placed.pools l c.requires.inside in
    let is : IsLinkRow shape (link_in shape l) (io_place shape l 0) row =
    subst (IsLinkRow shape (link_in shape l) (io_place shape l 0)) (sym c.index-row.ensures)
    (b.tied.links.each l row c.requires.inside) in
    let at = link_word shape l c.args.id (link_in shape l) (io_place shape l 0) row q inside c.requires.block b.placed b.fits is is.pool in
    let h = b.placed.blocks q c.args.id inside c.requires.block in let w = b.words in omega arith
