-- The links and pools of a board by number, and what a seat's view has of their ends and blocks.
-- Source: this project's own.
use Rattle.std.specs.Prelude.{ℕ, slice_set as set, slice_index_or}
use Rattle.pw_graph.specs.declared.shape.ShapeLink.{ShapeLink}
use Rattle.pw_graph.specs.declared.pools.PoolShape.{PoolShape}
use Rattle.board_rule.specs.declared.view.WriteView.{WriteView}
use Rattle.board_rule.specs.declared.view.ReadView.{ReadView}
use Rattle.board_rule.specs.declared.view.BlockView.{BlockView}
use Rattle.board_rule.specs.declared.view.BlockView.TheVariants.{Free}
use Rattle.board_rule.specs.declared.view.View.{View}
use Rattle.board_rule.specs.Layout.{BoardLayout}
use Rattle.board_rule.specs.View.{unwritten, unread}
use Rattle.board_rule.specs.buffers.Spans.{block_at}
pub use Rattle.board_rule.specs.buffers.ByNumber.{no_link, no_pool, link_in, pool_in, pool_number}

-- the writer's end of a link, and the reader's, as a view has them
abbrev pub write_of : View → ℕ → WriteView
write_of v l = slice_index_or v.writes l (unwritten 0)

abbrev pub read_of : View → ℕ → ReadView
read_of v l = slice_index_or v.reads l (unread 0)

abbrev pub view_write : View → ℕ → WriteView → View
view_write v l y = record v { writes = set v.writes l y }

abbrev pub view_read : View → ℕ → ReadView → View
view_read v l y = record v { reads = set v.reads l y }

module _ (p : BoardLayout) where
  -- a link and a pool by their numbers
  abbrev pub link_at : ℕ → ShapeLink
  link_at l = link_in p.shape l

  abbrev pub pool_at : ℕ → PoolShape
  pool_at q = pool_in p.shape q

  -- the indexes of a link's nodes, the index of the node that fills a pool, and the number of the
  -- pool that a link reads
  abbrev pub writer_of : ℕ → ℕ
  writer_of l = p.index (link_at l).from.node

  abbrev pub reader_of : ℕ → ℕ
  reader_of l = p.index (link_at l).to.node

  abbrev pub filler_of : ℕ → ℕ
  filler_of q = p.index (pool_at q).port.node

  abbrev pub pool_of : ℕ → ℕ
  pool_of l = pool_number p.shape l

  -- a block by its pool and its number
  abbrev pub block_of : View → ℕ → ℕ → BlockView
  block_of v q b = slice_index_or v.blocks (block_at p q b) Free

  abbrev pub view_block : View → ℕ → ℕ → BlockView → View
  view_block v q b y = record v { blocks = set v.blocks (block_at p q b) y }
