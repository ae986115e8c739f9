use Rattle.std.proofs.Common.{◌<◌, sym, subst, length}
use Rattle.pw_graph.specs.Layout.{io_place}
use Rattle.pw_graph.specs.Pools.{pools_of}
use Rattle.board_rule.specs.declared.rows.LinkRow.{LinkRow}
use Rattle.board_rule.specs.buffers.EndViews.{link_in}
use Rattle.board_rule.specs.working.Rows.{IsLinkRow}
use Rattle.board_rule.proofs.board.Board.pool_of.Goals as goal

pub returns-clause-there : goal.returns-clause-there
returns-clause-there c = let b = c.args.self.now in let shape = b.board_shape.shape in let row : LinkRow = c.index.result.now in
    let is : IsLinkRow shape (link_in shape c.args.link) (io_place shape c.args.link 0) row =
    subst (IsLinkRow shape (link_in shape c.args.link) (io_place shape c.args.link 0)) (sym c.index.ensures)
    (b.tied.links.each c.args.link row c.requires) in
    subst (λ n. n < length (pools_of shape)) (sym is.pool) (b.placed.pools c.args.link c.requires)
