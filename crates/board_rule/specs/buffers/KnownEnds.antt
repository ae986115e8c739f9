-- What each seat knows of the ends of its links, of its blocks and of its reclaims.
-- Source: this project's own.
use Rattle.std.specs.Prelude.{◌≡◌, ℕ, ◌+◌, ◌<◌, ◌≤◌, List, Some, length, slice_get, slice_index}
use mathlib.Core.Option.{some}
use lib.ListN.{get_elem?}
use Rattle.pw_graph.specs.declared.shape.ShapeLink.{ShapeLink}
use Rattle.pw_graph.specs.declared.pools.PoolShape.{PoolShape}
use Rattle.pw_graph.specs.Pools.{pools_of}
use Rattle.board_rule.specs.declared.view.WriteView.{WriteView}
use Rattle.board_rule.specs.declared.view.ReadView.{ReadView}
use Rattle.board_rule.specs.declared.view.BlockView.{BlockView}
use Rattle.board_rule.specs.Layout.{BoardLayout, first}
use Rattle.board_rule.specs.View.{first_write, first_block, unread}
use Rattle.board_rule.specs.buffers.BlockReadings.{Ends}
use Rattle.board_rule.specs.buffers.Spans.{holder, block_at}
use Rattle.board_rule.specs.buffers.EndViews.{pool_at, pool_of}

module _ (p : BoardLayout) where
  -- a seat, by its number, knows the ends of its own nodes, and the blocks and reclaims of the
  -- pools that they fill
  pub record KnowsEnds (ends : Ends) (number : ℕ) (writes : List WriteView)
      (reads : List ReadView)
      (blocks : List BlockView) (reclaimed : List ℕ) : Type 0 where
    pub of_write : (l : ℕ) (k : ShapeLink) → slice_get p.shape.links l ≡ Some k
        → holder p (p.index k.from.node) ≡ number
        → get_elem? writes l ≡ some (ends.writes l)
    pub of_read : (l : ℕ) (k : ShapeLink) → slice_get p.shape.links l ≡ Some k
        → holder p (p.index k.to.node) ≡ number
        → get_elem? reads l ≡ some (ends.reads l)
    pub of_block : (q b : ℕ) (x : PoolShape) → slice_get (pools_of p.shape) q ≡ Some x
        → b < x.blocks
        → holder p (p.index x.port.node) ≡ number
        → get_elem? blocks (block_at p q b) ≡ some (ends.blocks q b)
    pub of_pool : (q : ℕ) (x : PoolShape) → slice_get (pools_of p.shape) q ≡ Some x
        → holder p (p.index x.port.node) ≡ number
        → get_elem? reclaimed q ≡ some (ends.reclaimed q)

  -- of each link it counts the sample words that are read of a block: no more than the block has
  pub record AreRead (words_read : List ℕ) : Type 0 where
    pub links : length words_read ≡ length p.shape.links
    pub few : (l : ℕ) → l < length p.shape.links
        → slice_index words_read l ≤ (pool_at p (pool_of p l)).words

  -- the ends, the blocks and the reclaims of a loop's seat that is not yet split off are as at the
  -- start
  pub record AreStill (ends : Ends) (split : ℕ) : Type 0 where
    pub writes : (l : ℕ) (k : ShapeLink) → slice_get p.shape.links l ≡ Some k
        → split ≤ holder p (p.index k.from.node)
        → holder p (p.index k.from.node) < p.seats → ends.writes l ≡ first_write (first p) k
    pub reads : (l : ℕ) (k : ShapeLink) → slice_get p.shape.links l ≡ Some k
        → split ≤ holder p (p.index k.to.node)
        → holder p (p.index k.to.node) < p.seats → ends.reads l ≡ unread (first p)
    pub blocks : (q b : ℕ) (x : PoolShape) → slice_get (pools_of p.shape) q ≡ Some x
        → b < x.blocks
        → split ≤ holder p (p.index x.port.node) → holder p (p.index x.port.node) < p.seats
        → ends.blocks q b ≡ first_block p.shape x b
    pub pools : (q : ℕ) (x : PoolShape) → slice_get (pools_of p.shape) q ≡ Some x
        → split ≤ holder p (p.index x.port.node)
        → holder p (p.index x.port.node) < p.seats → ends.reclaimed q ≡ first p + 1
